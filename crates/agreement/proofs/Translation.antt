-- The network that translating gives realises its sheet. Assumes nothing.
pub mod Lookup
pub mod Taken
use mathlib.Core.Path.{◌≡◌, refl, ap, ◌∙◌}
use Prim.Native.Nat.{ℕ}
use Rattle.condition.specs.Meaning.{Environment}
use Rattle.sheet.specs.declared.Template.{Template}
use Rattle.sheet.specs.Parts.{Sheet}
use Rattle.step.specs.Meets.{meets}
use Rattle.translation.specs.Translate.{extended, translate}
use Rattle.monitor.specs.Monitor.{triple_in}
use Rattle.network.specs.Network.{template_in}
use Rattle.agreement.specs.Realises.{Realises}
use Rattle.agreement.proofs.Translation.Lookup.{meets_extended, template_same}
use Rattle.agreement.proofs.Translation.Taken.{moved_same, created_same}

judged_same : (S : Sheet) (i : ℕ) (E : Environment) → meets (translate S).common (template_in (translate S) i).postcondition E ≡ meets S.common (triple_in S i).postcondition E
unfolding translate
judged_same S i E = ap (λ (t : Template). meets (extended S.common) t.postcondition E) (template_same S i) ∙ meets_extended S.common (triple_in S i).postcondition E

pub translate_realises : (S : Sheet) → Realises S (translate S)
unfolding translate extended
translate_realises S = record {
  states = refl;
  units = refl;
  programs = refl;
  start = refl;
  bad = refl;
  initial = refl;
  moves = moved_same S;
  creates = λ k p e a b c. created_same S k e a b c p;
  judges = judged_same S;
}
