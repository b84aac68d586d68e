-- Laws of tables of any form, and of tests on all elements of a list. Assumes nothing.
use mathlib.Core.Path.{◌≡◌, refl, sym, ap, ap₂, ◌∙◌}
use mathlib.Core.Bool.{Bool, true, false, ◌&&◌, and-eq-true_iff}
use mathlib.Core.List.{List, [], ◌∷◌, ◌++◌, map}
use Prim.Native.Nat.{ℕ, zero, suc, ◌+◌, ◌*◌, ◌≤◌, ◌<◌}
use native.Mathlib.Omega.{arith}
use native.Mathlib.Nat.{suc-mul, zero-mul, suc-add, zero-add, le_of_suc-le-suc}
use lib.ListN.{length, drop, get_or}
use lib.Seq.{drop-drop}
use Rattle.sheet.specs.Table.{Form, records, extent, table, after, starts, fit, every}

-- A conjunction that holds, and its parts.
pub and_parts : (a b : Bool) → (a && b) ≡ true → (a ≡ true) × (b ≡ true)
and_parts a b h = (and-eq-true_iff a b).0 h

pub and_both : {a b : Bool} → a ≡ true → b ≡ true → (a && b) ≡ true
and_both {a} {b} h k = rw (h, k)

pub and_assoc : (a b c : Bool) → ((a && b) && c) ≡ (a && (b && c))
and_assoc true b c = refl
and_assoc false b c = refl

pub and_true : (a : Bool) → (a && true) ≡ a
and_true true = refl
and_true false = refl

-- an element of a list, with room behind it
fit_at : (w : ℕ) (l : List ℕ) (i : ℕ) → i < length l → length l ≤ w → get_or (fit w 0 l) i 0 ≡ get_or l i 0
unfolding fit
fit_at w [] i h k = absurd (omega arith)
fit_at zero (x ∷ l) i h k = absurd (omega arith)
fit_at (suc w) (x ∷ l) zero h k = refl
fit_at (suc w) (x ∷ l) (suc i) h k = fit_at w l i (omega arith) (omega arith)

-- How long a table is; its first record and the rest.
module _ {A : Type 0} (F : Form A) where
  pub length_records : (n : ℕ) (s : List ℕ) → length (records F n s) ≡ n
  unfolding records
  length_records zero s = refl
  length_records (suc n) s = ap suc (length_records n (drop (F.size s) s))

  pub length_starts : (n : ℕ) (s : List ℕ) (a : ℕ) → length (starts F n s a) ≡ n
  unfolding starts
  length_starts zero s a = refl
  length_starts (suc n) s a = ap suc (length_starts n s (a + F.size (drop a s)))

  pub table_step : (n : ℕ) (s : List ℕ) (a : ℕ) → table F (suc n) s a ≡ F.value (drop a s) ∷ table F n s (a + F.size (drop a s))
  unfolding records
  table_step n s a = rw drop-drop

  pub after_step : (n : ℕ) (s : List ℕ) (a : ℕ) → after F (suc n) s a ≡ after F n s (a + F.size (drop a s))
  unfolding extent
  after_step n s a = rw drop-drop (omega arith)

  pub after_none : (s : List ℕ) (a : ℕ) → after F 0 s a ≡ a
  unfolding extent
  after_none s a = omega arith

  -- a record by its number
  pub table_at : (n : ℕ) (s : List ℕ) (a i : ℕ) (d : A) → i < n → F.value (drop (get_or (starts F n s a) i 0) s) ≡ get_or (table F n s a) i d
  unfolding starts records
  table_at zero s a i d h = absurd (omega arith)
  table_at (suc n) s a zero d h = refl
  table_at (suc n) s a (suc i) d h = rw drop-drop (table_at n s (a + F.size (drop a s)) i d (le_of_suc-le-suc h))

  -- the records from where they begin
  pub map_starts : (n : ℕ) (s : List ℕ) (a : ℕ) → map (λ k. F.value (drop k s)) (starts F n s a) ≡ table F n s a
  unfolding starts records
  map_starts zero s a = refl
  map_starts (suc n) s a = rw drop-drop (ap (λ (l : List A). F.value (drop a s) ∷ l) (map_starts n s (a + F.size (drop a s))))

  -- and through an index with room for w
  pub indexed : (w n : ℕ) (s : List ℕ) (a i : ℕ) (d : A) → i < n → n ≤ w → F.value (drop (get_or (fit w 0 (starts F n s a)) i 0) s) ≡ get_or (table F n s a) i d
  indexed w n s a i d h few =
      let long = length_starts n s a in
      rw (fit_at w (starts F n s a) i (omega arith) (omega arith)) (table_at n s a i d h)

-- Records of one size, k.
module _ {A : Type 0} (F : Form A) (k : ℕ) (sized : (s : List ℕ) → F.size s ≡ k) where
  pub fixed_extent : (n : ℕ) (s : List ℕ) → extent F n s ≡ n * k
  unfolding extent
  fixed_extent zero s = sym (zero-mul k)
  fixed_extent (suc n) s = rw (fixed_extent n (drop (F.size s) s), sized s, suc-mul n k) (omega arith)

  pub fixed_after : (n : ℕ) (s : List ℕ) (a : ℕ) → after F n s a ≡ a + n * k
  fixed_after n s a = rw (fixed_extent n (drop a s))

  pub fixed_start : (n : ℕ) (s : List ℕ) (a i d : ℕ) → i < n → get_or (starts F n s a) i d ≡ a + i * k
  unfolding starts
  fixed_start zero s a i d h = absurd (omega arith)
  fixed_start (suc n) s a zero d h = omega arith
  fixed_start (suc n) s a (suc i) d h = rw (fixed_start n s (a + F.size (drop a s)) i d (le_of_suc-le-suc h), sized (drop a s), suc-mul i k) (omega arith)

-- Records whose size is at most k where they pass a test.
pub extent_most : {A : Type 0} (F : Form A) (p : A → Bool) (k : ℕ) → ((s : List ℕ) → p (F.value s) ≡ true → F.size s ≤ k)
    → (n : ℕ) (s : List ℕ) → every p (records F n s) ≡ true → extent F n s ≤ n * k
unfolding records extent every
extent_most F p k h zero s e = omega arith
extent_most F p k h (suc n) s e =
    let (a, b) = and_parts (p (F.value s)) (every p (records F n (drop (F.size s) s))) e in
    rw (suc-mul n k) (omega (arith, h s a, extent_most F p k h n (drop (F.size s) s) b))

-- Forms with the same sizes: their tables stand at the same places.
module _ {A B : Type 0} (F : Form A) (G : Form B) (same : (s : List ℕ) → F.size s ≡ G.size s) where
  pub same_extent : (n : ℕ) (s : List ℕ) → extent F n s ≡ extent G n s
  unfolding extent
  same_extent zero s = refl
  same_extent (suc n) s = rw (same s, same_extent n (drop (G.size s) s))

  pub same_after : (n : ℕ) (s : List ℕ) (a : ℕ) → after F n s a ≡ after G n s a
  same_after n s a = rw (same_extent n (drop a s))

  pub same_starts : (n : ℕ) (s : List ℕ) (a : ℕ) → starts F n s a ≡ starts G n s a
  unfolding starts
  same_starts zero s a = refl
  same_starts (suc n) s a = rw (same (drop a s), same_starts n s (a + G.size (drop a s)))

  -- and if one gives what f makes of the other's values
  pub same_records : (f : B → A) → ((s : List ℕ) → F.value s ≡ f (G.value s)) → (n : ℕ) (s : List ℕ) → records F n s ≡ map f (records G n s)
  unfolding records
  same_records f h zero s = refl
  same_records f h (suc n) s = rw (same s, h s, same_records f h n (drop (G.size s) s))

-- Tests on all elements: at a place, on joined lists, on images, by a weaker test.
module _ {A : Type 0} where
  pub every_at : (p : A → Bool) (l : List A) (i : ℕ) (d : A) → every p l ≡ true → i < length l → p (get_or l i d) ≡ true
  unfolding every
  every_at p [] i d e h = absurd (omega arith)
  every_at p (x ∷ l) zero d e h = (and_parts (p x) (every p l) e).0
  every_at p (x ∷ l) (suc i) d e h = every_at p l i d (and_parts (p x) (every p l) e).1 (le_of_suc-le-suc h)

  -- at any place, where the default passes too
  pub every_or : (p : A → Bool) (l : List A) (i : ℕ) (d : A) → every p l ≡ true → p d ≡ true → p (get_or l i d) ≡ true
  unfolding every
  every_or p [] i d e h = h
  every_or p (x ∷ l) zero d e h = (and_parts (p x) (every p l) e).0
  every_or p (x ∷ l) (suc i) d e h = every_or p l i d (and_parts (p x) (every p l) e).1 h

  pub every_append : (p : A → Bool) (l m : List A) → every p (l ++ m) ≡ (every p l && every p m)
  unfolding every
  every_append p [] m = refl
  every_append p (x ∷ l) m = rw (every_append p l m) (sym (and_assoc (p x) (every p l) (every p m)))

  pub every_map : {B : Type 0} (p : B → Bool) (f : A → B) (l : List A) → every p (map f l) ≡ every (λ x. p (f x)) l
  unfolding every
  every_map p f [] = refl
  every_map p f (x ∷ l) = ap (λ b. p (f x) && b) (every_map p f l)

  pub every_weaker : (p q : A → Bool) → ((x : A) → p x ≡ true → q x ≡ true) → (l : List A) → every p l ≡ true → every q l ≡ true
  unfolding every
  every_weaker p q h [] e = refl
  every_weaker p q h (x ∷ l) e = let (a, b) = and_parts (p x) (every p l) e in and_both (h x a) (every_weaker p q h l b)

  pub every_same : (p q : A → Bool) → ((x : A) → p x ≡ q x) → (l : List A) → every p l ≡ every q l
  unfolding every
  every_same p q h [] = refl
  every_same p q h (x ∷ l) = ap₂ ◌&&◌ (h x) (every_same p q h l)

-- A table's first records, and the rest.
module _ {A : Type 0} (F : Form A) where
  pub extent_add : (k m : ℕ) (s : List ℕ) → extent F (k + m) s ≡ extent F k s + extent F m (drop (extent F k s) s)
  unfolding extent
  extent_add zero m s = ap (λ (k : ℕ). extent F k s) (zero-add m) ∙ sym (zero-add (extent F m s))
  extent_add (suc k) m s = rw (suc-add k m, extent_add k m (drop (F.size s) s), drop-drop) (omega arith)

  pub records_add : (k m : ℕ) (s : List ℕ) → records F (k + m) s ≡ records F k s ++ records F m (drop (extent F k s) s)
  unfolding records extent
  records_add zero m s = ap (λ (k : ℕ). records F k s) (zero-add m)
  records_add (suc k) m s = rw (suc-add k m, records_add k m (drop (F.size s) s), drop-drop)

  pub after_add : (k m : ℕ) (s : List ℕ) (a : ℕ) → after F (k + m) s a ≡ after F m s (after F k s a)
  after_add k m s a = rw (extent_add k m (drop a s), drop-drop) (omega arith)

  pub table_add : (k m : ℕ) (s : List ℕ) (a : ℕ) → table F (k + m) s a ≡ table F k s a ++ table F m s (after F k s a)
  table_add k m s a = rw (records_add k m (drop a s), drop-drop)
