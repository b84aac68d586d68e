-- The words of the open calls in a row. Assumes nothing.
use mathlib.Core.Path.{◌≡◌, refl, sym, ap, ap₂, ◌∙◌}
use mathlib.Core.List.{List, [], ◌∷◌, ◌++◌}
use Prim.Native.Nat.{ℕ, zero, suc, ◌+◌, ◌*◌, ◌≤◌, ◌<◌}
use native.Mathlib.Nat.{mul-suc, add-suc, suc-add, zero-add}
use native.Mathlib.Omega.{arith}
use lib.ListN.{length, get_or, set, take, drop, length-drop}
use lib.Seq.{sets, slice, get_or-take, get_or-drop, drop-drop, take-nil, take-take, take_at, take-set-le, drop-set-add, sets-eq, length-slice}
use Rattle.engine.specs.Walk.{entries}

pub length_entries : (n : ℕ) (l : List ℕ) → length (entries n l) ≡ n
unfolding entries
length_entries zero l = refl
length_entries (suc n) l = ap suc (length_entries n (drop 16 l))

drop_behind : (i : ℕ) (l : List ℕ) → drop (16 * i) (drop 16 l) ≡ drop (16 * suc i) l
drop_behind i l =
    let behind : 16 + 16 * i ≡ 16 * suc i = omega (arith, mul-suc 16 i) in
    drop-drop (16 * i) 16 l ∙ ap (λ (k : ℕ). drop k l) behind

-- the words of the call at a place
pub entry_at : (n : ℕ) (l : List ℕ) (i : ℕ) (d : List ℕ) → i < n → get_or (entries n l) i d ≡ take 16 (drop (16 * i) l)
unfolding entries
entry_at zero l i d h = absurd (omega arith)
entry_at (suc n) l zero d h = refl
entry_at (suc n) l (suc i) d h = entry_at n (drop 16 l) i d (omega arith) ∙ ap (take 16) (drop_behind i l)

pub word_at : (n : ℕ) (l : List ℕ) (i : ℕ) (d : List ℕ) → i < n → (j : ℕ) → j < 16 → get_or (get_or (entries n l) i d) j 0 ≡ get_or l (16 * i + j) 0
word_at n l i d h j k = ap (λ (w : List ℕ). get_or w j 0) (entry_at n l i d h) ∙ get_or-take 16 (drop (16 * i) l) j 0 k ∙ get_or-drop (16 * i) l j 0

-- A run of stores leaves what stands before it, and behind a place it is one behind that place.
pub take_sets : (n : ℕ) (l : List ℕ) (i : ℕ) (m : List ℕ) → n ≤ i → take n (sets l i m) ≡ take n l
take_sets n l i [] h = refl
take_sets n l i (x ∷ m) h = take_sets n (set l i x) (suc i) m (omega arith) ∙ take-set-le n l i x h

pub drop_sets : (n : ℕ) (l : List ℕ) (i : ℕ) (m : List ℕ) → drop n (sets l (n + i) m) ≡ sets (drop n l) i m
drop_sets n l i [] = refl
drop_sets n l i (x ∷ m) =
    ap (λ (k : ℕ). drop n (sets (set l (n + i) x) k m)) (sym (add-suc n i)) ∙ drop_sets n (set l (n + i) x) (suc i) m ∙ ap (λ (r : List ℕ). sets r (suc i) m) (drop-set-add n l i x)

-- Parts of a list behind its first words.
module _ {A : Type 0} where
  pub drop_take : (n m : ℕ) (l : List A) → drop n (take (n + m) l) ≡ take m (drop n l)
  drop_take zero m l = ap (λ (k : ℕ). take k l) (zero-add m)
  drop_take (suc n) m [] = ap (drop (suc n)) (take-nil (suc n + m)) ∙ sym (take-nil m)
  drop_take (suc n) m (x ∷ l) = ap (λ (k : ℕ). drop (suc n) (take k (x ∷ l))) (suc-add n m) ∙ drop_take n m l

  slice_behind : (n f t : ℕ) (l : List A) → slice (n + f) (n + t) l ≡ slice f t (drop n l)
  slice_behind n f t l = sym (drop-drop f n (take (n + t) l)) ∙ ap (drop f) (drop_take n t l)

-- The calls of a row stand in its first words.
entries_front : (n : ℕ) (l : List ℕ) → entries n (take (16 * n) l) ≡ entries n l
unfolding entries
entries_front zero l = refl
entries_front (suc n) l =
    let more : 16 * suc n ≡ 16 + 16 * n = omega (arith, mul-suc 16 n) in
    ap (λ (k : ℕ). entries (suc n) (take k l)) more
    ∙ ap₂ (λ (w : List ℕ) (r : List (List ℕ)). w ∷ r) (take-take 16 (16 + 16 * n) l (omega arith)) (ap (entries n) (drop_take 16 (16 * n) l) ∙ entries_front n (drop 16 l))

pub entries_same : (n : ℕ) (l m : List ℕ) → take (16 * n) l ≡ take (16 * n) m → entries n l ≡ entries n m
entries_same n l m h = sym (entries_front n l) ∙ ap (entries n) h ∙ entries_front n m

entries_append : (n : ℕ) (l m : List ℕ) → length l ≡ 16 * n → entries n (l ++ m) ≡ entries n l
entries_append n l m h = sym (entries_front n (l ++ m)) ∙ ap (entries n) (take_at l m (16 * n) h)

-- one more call is the words behind the others
pub entries_more : (n : ℕ) (l : List ℕ) → entries (suc n) l ≡ entries n l ++ take 16 (drop (16 * n) l) ∷ []
unfolding entries
entries_more zero l = refl
entries_more (suc n) l =
    ap (λ (r : List (List ℕ)). take 16 l ∷ r) (entries_more n (drop 16 l) ∙ ap (λ (w : List ℕ). entries n (drop 16 l) ++ take 16 w ∷ []) (drop_behind n l))

-- Where the words behind a call are moved to its place, the calls are those around it.
pub entries_close : (place n : ℕ) (row : List ℕ) → 16 * suc n ≤ length row → place < suc n
    → entries n (sets row (16 * place) (slice (16 * place + 16) (16 * suc n) row)) ≡ take place (entries (suc n) row) ++ drop (suc place) (entries (suc n) row)
unfolding entries
entries_close zero n row h k =
    let more : 16 * suc n ≡ 16 + 16 * n = omega (arith, mul-suc 16 n) in
    let behind = slice 16 (16 * suc n) row in
    let long : length behind ≡ 16 * n = omega (arith, length-slice 16 (16 * suc n) row h) in
    let same : behind ≡ take (16 * n) (drop 16 row) = ap (λ (j : ℕ). slice 16 j row) more ∙ drop_take 16 (16 * n) row in
    ap (entries n) (sets-eq behind row 0 (omega arith))
    ∙ entries_append n behind _ long
    ∙ ap (entries n) same
    ∙ entries_front n (drop 16 row)
entries_close (suc place) zero row h k = absurd (omega arith)
entries_close (suc place) (suc n) row h k =
    let all : 16 * suc (suc n) ≡ 16 + 16 * suc n = omega (arith, mul-suc 16 (suc n)) in
    let to : 16 * suc place ≡ 16 + 16 * place = omega (arith, mul-suc 16 place) in
    let from : 16 * suc place + 16 ≡ 16 + (16 * place + 16) = omega arith in
    let words = slice (16 * suc place + 16) (16 * suc (suc n)) row in
    let same : words ≡ slice (16 * place + 16) (16 * suc n) (drop 16 row) = ap₂ (λ (f t : ℕ). slice f t row) from all ∙ slice_behind 16 (16 * place + 16) (16 * suc n) row in
    let front = take_sets 16 row (16 * suc place) words (omega arith) in
    let rest : drop 16 (sets row (16 * suc place) words) ≡ sets (drop 16 row) (16 * place) (slice (16 * place + 16) (16 * suc n) (drop 16 row)) =
    ap (λ (j : ℕ). drop 16 (sets row j words)) to ∙ drop_sets 16 row (16 * place) words ∙ ap (sets (drop 16 row) (16 * place)) same in
    ap₂ (λ (w : List ℕ) (r : List (List ℕ)). w ∷ r) front (ap (entries n) rest ∙ entries_close place n (drop 16 row) (omega (arith, length-drop 16 row)) (omega arith))
