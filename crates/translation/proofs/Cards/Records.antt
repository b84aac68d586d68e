-- Records that are written as they were read: a table of them is its own bytes. Assumes nothing.
use mathlib.Core.Path.{◌≡◌, refl, sym, ap, ap₂, ◌∙◌}
use mathlib.Core.Bool.{false}
use mathlib.Core.List.{List, [], ◌∷◌, ◌++◌}
use Prim.Native.Nat.{ℕ, zero, suc, ◌+◌, ◌-◌, ◌*◌, ◌≤◌}
use native.Mathlib.Omega.{arith}
use lib.ListN.{length, take, drop, length-drop}
use lib.Seq.{drop-cons, length-take-le, take-add}
use Rattle.sheet.specs.Bytes.{byte}
use Rattle.sheet.specs.Table.{Form, records, extent}
use Rattle.sheet.specs.Decode.{text_form, pair_form, paired_form, template_form}
use Rattle.sheet.specs.Encode.{text_bytes, pair_bytes, template_bytes, written}
use Rattle.sheet.proofs.Tables.{length_records, fixed_extent}

module _ {A : Type 0} (w : A → List ℕ) (F : Form A) (own : (s : List ℕ) → F.size s ≤ length s → w (F.value s) ≡ take (F.size s) s) where
  pub records_written : (n : ℕ) (s : List ℕ) → extent F n s ≤ length s → written w (records F n s) ≡ take (extent F n s) s
  unfolding written records extent
  records_written zero s h = refl
  records_written (suc n) s h =
      let rest = drop (F.size s) s in
      let long = length-drop (F.size s) s in
      ap₂ (λ (a b : List ℕ). a ++ b) (own s (omega arith)) (records_written n rest (omega arith)) ∙ sym (take-add (F.size s) (extent F n rest) s)

-- texts with a length of one byte
text_own : (s : List ℕ) → (text_form false).size s ≤ length s → text_bytes false ((text_form false).value s) ≡ take ((text_form false).size s) s
text_own [] h = absurd (omega arith)
text_own (x ∷ r) h =
    let long : length (take x r) ≡ x = length-take-le x r (omega arith) in
    let more : suc x ≡ 1 + x = omega arith in
    ap (λ (n : ℕ). n ∷ take x r) long ∙ ap (λ (n : ℕ). take n (x ∷ r)) more

pub texts_written : (n : ℕ) (s : List ℕ) → extent (text_form false) n s ≤ length s → written (text_bytes false) (records (text_form false) n s) ≡ take (extent (text_form false) n s) s
texts_written = records_written (text_bytes false) (text_form false) text_own

-- two bytes: pairs and templates
two_own : (s : List ℕ) → 2 ≤ length s → byte s 0 ∷ byte s 1 ∷ [] ≡ take 2 s
two_own [] h = absurd (omega arith)
two_own (x ∷ []) h = absurd (omega arith)
two_own (x ∷ y ∷ r) h = refl

pub pairs_written : (n : ℕ) (s : List ℕ) → n * 2 ≤ length s → written pair_bytes (records pair_form n s) ≡ take (n * 2) s
pairs_written n s h =
    let e = fixed_extent pair_form 2 (λ t. refl) n s in
    records_written pair_bytes pair_form two_own n s (omega arith) ∙ ap (λ (k : ℕ). take k s) e

pub templates_written : (n : ℕ) (s : List ℕ) → n * 2 ≤ length s → written template_bytes (records template_form n s) ≡ take (n * 2) s
templates_written n s h =
    let e = fixed_extent template_form 2 (λ t. refl) n s in
    records_written template_bytes template_form two_own n s (omega arith) ∙ ap (λ (k : ℕ). take k s) e

-- "a seventh byte n, 0-4, and n pairs": the bytes of a transition behind the sixth
pub counted_written : (s : List ℕ) → paired_form.size s ≤ length s
    → take (paired_form.size s - 6) (drop 6 s) ≡ length (paired_form.value s).pairs ∷ written pair_bytes (paired_form.value s).pairs
counted_written s h =
    let k = byte s 6 in
    let size : paired_form.size s - 6 ≡ suc (k * 2) = omega arith in
    let long = length-drop 7 s in
    let front : drop 6 s ≡ byte s 6 ∷ drop 7 s = drop-cons s 6 0 (omega arith) in
    rw (size, front) (ap₂ (λ (n : ℕ) (l : List ℕ). n ∷ l) (sym (length_records pair_form k (drop 7 s))) (sym (pairs_written k (drop 7 s) (omega arith))))
