-- Lists: the first element that passes a test, those that pass it, the least of some numbers, a sum.
use Rattle.std.specs.Prelude.{◌≡◌, ◌⊎◌, Bool, true, false, not, cond, ◌&&◌, List, [], ◌∷◌, ℕ, suc, ◌+◌, min, eqb, ltb}
use Rattle.std.proofs.Math.Option.{Option, none, some}
use Rattle.sheet.specs.Table.{every}

-- to be one of a list's elements
abbrev pub Among : {A : Type 0} → A → List A → Type 0
Among x [] = ⊥
Among x (y ∷ l) = (x ≡ y) ⊎ Among x l

unfoldable pub first : {A : Type 0} → (A → Bool) → List A → Option A
first p [] = none
first p (x ∷ l) = cond (p x) (some x) (first p l)

unfoldable pub keep : {A : Type 0} → (A → Bool) → List A → List A
keep p [] = []
keep p (x ∷ l) = cond (p x) (x ∷ keep p l) (keep p l)

-- up to and with the first that passes a test, or all
unfoldable pub up_to : {A : Type 0} → (A → Bool) → List A → List A
up_to p [] = []
up_to p (x ∷ l) = x ∷ cond (p x) [] (up_to p l)

-- a number of each element, added up
unfoldable pub total : {A : Type 0} → (A → ℕ) → List A → ℕ
total f [] = 0
total f (x ∷ l) = f x + total f l

unfoldable pub any : {A : Type 0} → (A → Bool) → List A → Bool
any p [] = false
any p (x ∷ l) = cond (p x) true (any p l)

-- the numbers of the elements that pass a test, from a first number on
unfoldable pub numbers : {A : Type 0} → (A → Bool) → ℕ → List A → List ℕ
numbers p i [] = []
numbers p i (x ∷ l) = cond (p x) (i ∷ numbers p (suc i) l) (numbers p (suc i) l)

abbrev pub lesser : ℕ → Option ℕ → Option ℕ
lesser n none = some n
lesser n (some m) = some (min n m)

unfoldable pub least : List ℕ → Option ℕ
least [] = none
least (n ∷ l) = lesser n (least l)

-- all different
unfoldable pub distinct : List ℕ → Bool
distinct [] = true
distinct (n ∷ l) = not (any (eqb n) l) && distinct l

-- each below all that follow it
unfoldable pub rising : List ℕ → Bool
rising [] = true
rising (n ∷ l) = every (ltb n) l && rising l

-- two lists side by side
unfoldable pub beside : {A B C : Type 0} → (A → B → C) → List A → List B → List C
beside f [] m = []
beside f (x ∷ l) [] = []
beside f (x ∷ l) (y ∷ m) = f x y ∷ beside f l m

-- how many elements stand before the first that passes a test
unfoldable pub place_of : {A : Type 0} → (A → Bool) → List A → ℕ
place_of p [] = 0
place_of p (x ∷ l) = cond (p x) 0 (suc (place_of p l))
