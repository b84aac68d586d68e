-- Writing lists one behind the other. Assumes nothing.
use mathlib.Core.Path.{◌≡◌, refl, sym, ap, ◌∙◌}
use mathlib.Core.Logic.{◌⊎◌, inl, inr}
use mathlib.Core.List.{List, [], ◌∷◌, ◌++◌, append_assoc}
use Prim.Native.Nat.{ℕ, suc, ◌+◌, ◌/◌, ◌%◌, ◌≤◌, ◌<◌}
use native.Mathlib.Numerals.{add-one}
use native.Mathlib.Omega.{arith}
use lib.ListN.{length, get_or, set, drop, length-append}
use lib.Seq.{drop-cons, sets, length-sets, set_out}
use Rattle.std.proofs.lemmas.List.{drop_all}
use Rattle.std.specs.Int.{w16, w32, to_be_bytes}
use Rattle.sheet.specs.Encode.{half_bytes, word_bytes, written}
use Rattle.translation.specs.Walk.{Room, Writes}

pub sets_append : (l : List ℕ) (i : ℕ) (x y : List ℕ) → sets l i (x ++ y) ≡ sets (sets l i x) (i + length x) y
sets_append l i [] y = ap (λ (k : ℕ). sets l k y) (omega arith)
sets_append l i (a ∷ x) y = sets_append (set l i a) (suc i) x y ∙ ap (λ (k : ℕ). sets (sets (set l i a) (suc i) x) k y) (omega arith)

-- a writer keeps the length
pub writes_length : {o p : List ℕ} {at : ℕ} {l : List ℕ} {r : ℕ} → Writes o p at l r → length p ≡ length o
writes_length {o} {p} {at} {l} w = ap length w.all ∙ length-sets o at l

-- one byte, stored where there is room
pub stored_is : (o p : List ℕ) (at b : ℕ) → ((at < length o) × (p ≡ set o at b)) ⊎ ((length o ≤ at) × (p ≡ o)) → Writes o p at (b ∷ []) (at + 1)
stored_is o p at b (inl (h, e)) = record { all = e; next = refl }
stored_is o p at b (inr (h, e)) = record { all = e ∙ sym (set_out o at b h); next = refl }

-- Bytes are stored one by one: with those from i on, out becomes what o becomes with all.
module _ (o : List ℕ) (at : ℕ) (bytes : List ℕ) where
  pub record Storing (out : List ℕ) (i : ℕ) : Type 0 where
    pub all : sets out (at + i) (drop i bytes) ≡ sets o at bytes

  pub storing_start : Storing o 0
  storing_start = record { all = ap (λ (k : ℕ). sets o k bytes) (omega arith) }

  pub storing_end : (out : List ℕ) (i : ℕ) → Storing out i → length bytes ≤ i → Writes o out at bytes (at + length bytes)
  storing_end out i g h = record { all = rw (drop_all i bytes h) at g.all; next = refl }

  -- one more, where there is room
  pub storing_next : (out p : List ℕ) (i : ℕ) → Storing out i → i < length bytes
      → ((at + i < length out) × (p ≡ set out (at + i) (get_or bytes i 0))) ⊎ ((length out ≤ at + i) × (p ≡ out)) → Storing p (i + 1)
  storing_next out p i g h s = record { all = rw (stored_is out p (at + i) (get_or bytes i 0) s).all (step ∙ rw (drop-cons bytes i 0 h) at g.all) }
    where
      step : sets (set out (at + i) (get_or bytes i 0)) (at + (i + 1)) (drop (i + 1) bytes) ≡ sets out (at + i) (get_or bytes i 0 ∷ drop (suc i) bytes)
      step = rw (add-one i) (ap (λ (k : ℕ). sets (set out (at + i) (get_or bytes i 0)) k (drop (suc i) bytes)) (omega arith))

-- one behind the other
pub writes_then : {o p q : List ℕ} {at : ℕ} (x y : List ℕ) {m r : ℕ} → Writes o p at x m → Writes p q m y r → Writes o q at (x ++ y) r
writes_then {o} {at = at} x y v w =
    record {
      all = w.all ∙ rw (v.all, v.next) (sym (sets_append o at x y));
      next = omega (arith, v.next, w.next, length-append x y);
    }

-- and room for the second
pub room_then : {o p : List ℕ} {at m : ℕ} (x y : List ℕ) → Writes o p at x m → Room at (x ++ y) → Room m y
room_then x y w h = omega (arith, w.next, length-append x y)

-- the bytes of records, and of more
pub written_append : {A : Type 0} (w : A → List ℕ) (x y : List A) → written w (x ++ y) ≡ written w x ++ written w y
unfolding written
written_append w [] y = refl
written_append w (a ∷ x) y = ap (λ (l : List ℕ). w a ++ l) (written_append w x y) ∙ sym (append_assoc (w a) (written w x) (written w y))

-- With `rest` to be written from `here` on, all of `whole` is written from `at` on.
pub record Writing (o : List ℕ) (at : ℕ) (whole out : List ℕ) (here : ℕ) (rest : List ℕ) : Type 0 where
  pub all : sets out here rest ≡ sets o at whole
  pub place : here + length rest ≡ at + length whole

module _ (o : List ℕ) (at : ℕ) (whole : List ℕ) where
  pub writing_start : Writing o at whole o at whole
  writing_start = record { all = refl; place = refl }

  module _ (out : List ℕ) (here : ℕ) where
    -- there is room for the next part
    pub writing_room : (l rest : List ℕ) → Writing o at whole out here (l ++ rest) → at + length whole ≤ 1000000 → here + length l ≤ 1000000
    writing_room l rest g h = omega (arith, g.place, length-append l rest)

    -- the next part is written
    pub writing_next : (l rest : List ℕ) → Writing o at whole out here (l ++ rest) → (p : List ℕ) (r : ℕ) → Writes out p here l r → Writing o at whole p r rest
    writing_next l rest g p r w =
        record {
          all = rw (w.all, w.next) (sym (sets_append out here l rest) ∙ g.all);
          place = omega (arith, w.next, g.place, length-append l rest);
        }

    -- nothing is left
    pub writing_end : Writing o at whole out here [] → Writes o out at whole here
    writing_end g = record { all = g.all; next = omega (arith, g.place) }

    -- the last part is written
    pub writing_last : (l : List ℕ) → Writing o at whole out here l → (p : List ℕ) (r : ℕ) → Writes out p here l r → Writes o p at whole r
    writing_last l g p r w = record { all = rw w.all g.all; next = omega (arith, w.next, g.place) }

-- numbers in two bytes, and in four
pub half_is : (m : ℕ) → m < 65536 → (l : List ℕ) → l ≡ to_be_bytes w16 m → l ≡ half_bytes m
half_is m h l e =
    let high : m / 256 % 256 ≡ m / 256 = omega arith in
    e ∙ rw high refl

pub word_is : (m : ℕ) → m < 4294967296 → (l : List ℕ) → l ≡ to_be_bytes w32 m → l ≡ word_bytes m
word_is m h l e =
    let first : m / 16777216 % 256 ≡ m / 256 / 256 / 256 = omega arith in
    let second : m / 65536 % 256 ≡ m / 256 / 256 % 256 = omega arith in
    e ∙ rw (first, second) refl
