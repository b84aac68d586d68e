-- Answers are told by their paper's words, parsing and bytes undo each other, and no more is counted than there are bytes. Assumes
-- nothing.
use Rattle.std.proofs.Common.{◌≡◌, ℕ, ◌-◌, ◌^◌, ◌<◌, Bool, true, false, cond, ltb, pos, negsuc, Result, Ok, Err, sym, refl, ap, ◌∙◌, arith}
use Rattle.condition.specs.declared.Lent.{Lent}
use Rattle.refusal.specs.declared.Refusal.{Refusal}
use Rattle.refusal.specs.Numbers.{number_of}
use Rattle.refusal.proofs.Numbers.{number_one}
use Rattle.condition.specs.Word.{signed, unsigned}
use Rattle.condition.specs.Answer.{condition_paper, value_paper, action_paper}
use Rattle.condition.specs.Claims.{Injective, IsWord, Told, RoundTrip, FewCounted}
use Rattle.condition.proofs.Parsing.{condition_whole, value_whole, action_whole, parse_bytes, parse_value_bytes, parse_action_bytes}
use Rattle.condition.proofs.Counting.{condition_counted_few, value_counted_few, action_counted_few}

-- a word is read off what it reads as
unsigned_signed : (w : ℕ) → w < 2 ^ 32 → unsigned (signed w) ≡ w
unfolding signed unsigned
unsigned_signed w h = go (ltb w (2 ^ 31)) refl
  where
    go : (b : Bool) → ltb w (2 ^ 31) ≡ b → unsigned (cond b (pos w) (negsuc (2 ^ 32 - 1 - w))) ≡ w
    go true e = refl
    go false e = omega arith

told_condition : Injective condition_paper
told_condition (Ok a) (Ok b) e = let x : a ≡ b = cc in ap Ok x
told_condition (Ok a) (Err m) e = let z : ◌≡◌ {A = ℕ} 0 1 = cc in absurd (omega arith)
told_condition (Err n) (Ok b) e = let z : ◌≡◌ {A = ℕ} 0 1 = cc in absurd (omega arith)
told_condition (Err n) (Err m) e = let x : number_of n ≡ number_of m = cc in ap Err (number_one n m x)

told_value : (a b : Result ℕ Refusal) → IsWord a → IsWord b → value_paper a ≡ value_paper b → a ≡ b
told_value (Ok v) (Ok w) h k e =
    let x : signed v ≡ signed w = cc in
    ap Ok (sym (unsigned_signed v h) ∙ ap unsigned x ∙ unsigned_signed w k)
told_value (Ok v) (Err m) h k e = let z : ◌≡◌ {A = ℕ} 0 1 = cc in absurd (omega arith)
told_value (Err n) (Ok w) h k e = let z : ◌≡◌ {A = ℕ} 0 1 = cc in absurd (omega arith)
told_value (Err n) (Err m) h k e = let x : number_of n ≡ number_of m = cc in ap Err (number_one n m x)

told_action : Injective action_paper
told_action (Ok a) (Ok b) e = refl
told_action (Ok a) (Err m) e = let z : ◌≡◌ {A = ℕ} 0 1 = cc in absurd (omega arith)
told_action (Err n) (Ok b) e = let z : ◌≡◌ {A = ℕ} 0 1 = cc in absurd (omega arith)
told_action (Err n) (Err m) e = let x : number_of n ≡ number_of m = cc in ap Err (number_one n m x)

pub told : Told
told = record { conditions = told_condition; values = told_value; actions = told_action }

pub round_trip : (L : Lent) → RoundTrip L
round_trip L =
    record {
      conditions = λ c h. parse_bytes L c h;
      values = λ e h. parse_value_bytes L e h;
      actions = λ a h k. parse_action_bytes L a h k;
      of_condition = λ s c h. condition_whole L s h;
      of_value = λ s e h. value_whole L s h;
      of_action = λ s a h. action_whole L s h;
    }

pub few_counted : FewCounted
few_counted s E = record { conditions = condition_counted_few s E; values = value_counted_few s E; actions = action_counted_few s E }
