-- Tables of records that stand one behind the other.
use Rattle.std.specs.Prelude.{Bool, true, ◌&&◌, List, [], ◌∷◌, ℕ, zero, suc, ◌+◌, drop}

-- How a record is read off the bytes that begin with it: its value, and how many bytes it takes.
pub record Form (A : Type 0) : Type 0 where
  pub value : List ℕ → A
  pub size : List ℕ → ℕ

-- n records from the start of some bytes
unfoldable pub records : {A : Type 0} → Form A → ℕ → List ℕ → List A
records F zero s = []
records F (suc n) s = F.value s ∷ records F n (drop (F.size s) s)

-- how many bytes they take
unfoldable pub extent : {A : Type 0} → Form A → ℕ → List ℕ → ℕ
extent F zero s = 0
extent F (suc n) s = F.size s + extent F n (drop (F.size s) s)

-- n records of s from a place on, and the place behind them
abbrev pub table : {A : Type 0} → Form A → ℕ → List ℕ → ℕ → List A
table F n s a = records F n (drop a s)

abbrev pub after : {A : Type 0} → Form A → ℕ → List ℕ → ℕ → ℕ
after F n s a = a + extent F n (drop a s)

-- where each of them begins
unfoldable pub starts : {A : Type 0} → Form A → ℕ → List ℕ → ℕ → List ℕ
starts F zero s a = []
starts F (suc n) s a = a ∷ starts F n s (a + F.size (drop a s))

unfoldable pub every : {A : Type 0} → (A → Bool) → List A → Bool
every p [] = true
every p (x ∷ l) = p x && every p l

-- exactly n elements: those of a list, and d behind them
unfoldable pub fit : {A : Type 0} → ℕ → A → List A → List A
fit zero d l = []
fit (suc n) d [] = d ∷ fit n d []
fit (suc n) d (x ∷ l) = x ∷ fit n d l
