-- Texts whose lengths take one byte or two. Assumes nothing.
use mathlib.Core.Path.{◌≡◌, sym, ap, ap₂, ◌∙◌}
use mathlib.Core.Bool.{Bool, true, false}
use mathlib.Core.List.{List}
use Prim.Native.Nat.{ℕ, ◌+◌, ◌*◌}
use lib.ListN.{take, drop}
use lib.Seq.{drop-drop}
use Rattle.sheet.specs.Bytes.{byte, half}
use Rattle.sheet.specs.Decode.{lead, said, text_form}
use Rattle.sheet.proofs.Readers.Loops.{byte_here, byte_past}

module _ (s : List ℕ) (at : ℕ) (w : Bool) where
  pub said_wide : w ≡ true → (r : ℕ) → r ≡ half s at → r ≡ said w (drop at s)
  said_wide e r f = rw e (f ∙ ap₂ (λ (x y : ℕ). x * 256 + y) (byte_here s at) (byte_past s at 1))

  pub said_narrow : w ≡ false → (r : ℕ) → r ≡ byte s at → r ≡ said w (drop at s)
  said_narrow e r f = rw e (f ∙ byte_here s at)

  pub text_part : (n l : ℕ) (t : List ℕ) → n ≡ said w (drop at s) → l ≡ lead w → t ≡ take n (drop (at + l) s) → t ≡ (text_form w).value (drop at s)
  text_part n l t e f g = g ∙ ap₂ (λ (x y : ℕ). take x (drop (at + y) s)) e f ∙ ap (take (said w (drop at s))) (sym (drop-drop (lead w) at s))
