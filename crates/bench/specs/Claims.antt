-- What is claimed of the two operations' answers (document 02, request 10), and its numbers.
use Rattle.std.specs.Prelude.{◌≡◌, ◌⊎◌, ◌↔◌, true, List, [], ◌∷◌, map, ℕ, suc, length, take, Option, None, Some, Result, Ok}
use Rattle.refusal.specs.declared.Refusal.{Refusal}
use Rattle.bench.specs.Bench.{is_test_condition, precedes, IsFirst, IsNext, NoneGreater, in_range, first_refusal, next_refusal, FirstAnswer, NextAnswer}

-- "gives by value the first for n": the least
abbrev pub FirstIsLeast : Type 0
FirstIsLeast = (n : ℕ) (r : Result (List ℕ) Refusal) → FirstAnswer n r → first_refusal n ≡ 0 → (bytes : List ℕ) × ((r ≡ Ok bytes) × IsFirst n (take n bytes))

-- "the next one after a given one": the least that is greater
abbrev pub NextIsLeastGreater : Type 0
NextIsLeastGreater = (n : ℕ) (g bytes : List ℕ) (r : Result (Option (List ℕ)) Refusal) → NextAnswer n g r → r ≡ Ok (Some bytes) → IsNext n (take n g) (take n bytes)

-- "or says there is none": exactly where none is greater
abbrev pub NoneExactly : Type 0
NoneExactly = (n : ℕ) (g : List ℕ) (r : Result (Option (List ℕ)) Refusal) → NextAnswer n g r → next_refusal n g ≡ 0 → (r ≡ Ok None) ↔ NoneGreater n (take n g)

-- What the operations promise determines what they answer.
abbrev pub FirstDetermined : Type 0
FirstDetermined = (n : ℕ) (r t : Result (List ℕ) Refusal) → FirstAnswer n r → FirstAnswer n t → r ≡ t

abbrev pub NextDetermined : Type 0
NextDetermined = (n : ℕ) (g : List ℕ) (r t : Result (Option (List ℕ)) Refusal) → NextAnswer n g r → NextAnswer n g t → r ≡ t

abbrev pub Among : List ℕ → List (List ℕ) → Type 0
Among t [] = ⊥
Among t (s ∷ l) = (t ≡ s) ⊎ Among t l

-- each stands before all that follow it, so none stands twice
abbrev pub Rising : List (List ℕ) → Type 0
Rising [] = Unit {0}
Rising (s ∷ l) = ((t : List ℕ) → Among t l → precedes s t ≡ true) × Rising l

-- "every condition of exactly n bytes, .. in byte order, each once"
pub record Lists (n : ℕ) (l : List (List ℕ)) : Type 0 where
  pub every : (t : List ℕ) → is_test_condition n t ≡ true → Among t l
  pub only : (t : List ℕ) → Among t l → is_test_condition n t ≡ true
  pub rising : Rising l

-- There is one such list, so that how many there are is a number.
abbrev pub ListDetermined : Type 0
ListDetermined = (n : ℕ) (l m : List (List ℕ)) → Lists n l → Lists n m → l ≡ m

-- The bytes that `next` answers, each time given those answered before, until it says that there is none.
abbrev pub GoesOn : ℕ → List ℕ → List (List ℕ) → Type 0
GoesOn n g [] = NextAnswer n g (Ok None)
GoesOn n g (h ∷ w) = NextAnswer n g (Ok (Some h)) × GoesOn n h w

-- The bytes that `first` answers, and from there on `next`.
abbrev pub Answered : ℕ → List (List ℕ) → Type 0
Answered n [] = ⊥
Answered n (g ∷ w) = FirstAnswer n (Ok g) × GoesOn n g w

-- Starting at the first and going on gives every test condition, each once, in order; and it comes to an end.
abbrev pub AnsweredLists : Type 0
AnsweredLists = (n : ℕ) (w : List (List ℕ)) → Answered n w → Lists n (map (take n) w)

abbrev pub AnsweredEnds : Type 0
AnsweredEnds = (n : ℕ) → in_range n ≡ true → (w : List (List ℕ)) × Answered n w

-- there are k test conditions of n bytes
abbrev pub HowMany : ℕ → ℕ → Type 0
HowMany n k = (l : List (List ℕ)) × (Lists n l × (length l ≡ k))

abbrev pub Counts : ℕ → List ℕ → Type 0
Counts n [] = Unit {0}
Counts n (k ∷ more) = HowMany n k × Counts (suc n) more

-- "For n = 1, 2, 3, 4 there are 1, 1, 3 and 7"; then for 5, 6, 7 and 8
abbrev pub numbers : List ℕ
numbers = 1 ∷ 1 ∷ 3 ∷ 7 ∷ 23 ∷ 63 ∷ 202 ∷ 638 ∷ []

abbrev pub Numbers : Type 0
Numbers = Counts 1 numbers

-- "for n = 3 they are `01 01 00`, `02 00 00`, `03 00 00`"
abbrev pub OfThreeBytes : Type 0
OfThreeBytes = Lists 3 ((1 ∷ 1 ∷ 0 ∷ []) ∷ (2 ∷ 0 ∷ 0 ∷ []) ∷ (3 ∷ 0 ∷ 0 ∷ []) ∷ [])
