-- `call_place` meets its contract. Assumes nothing.
use Rattle.std.proofs.Common.{◌≡◌, ◌∙◌, ap, cond, ltb, length, eqb, Some, None, ℕ, rules, tests}
use Rattle.std.specs.List.{position_or_len}
use Rattle.std.proofs.lemmas.Iterator.{YieldsList-from_slice}
use Rattle.std.proofs.lemmas.Iterator.Search.{position_from_yields_List}
use Rattle.step.specs.declared.Call.{Call}
use Rattle.step.specs.Lists.{place_of}
use Rattle.step.proofs.OnLists.Alike.{position_place, place_or}
use Rattle.step.proofs.OnLists.Searching.{place_low}
use Rattle.step.proofs.call_place.Goals as goal

pub returns : goal.returns
returns c =
    let p : Call → _ = λ (x : Call). eqb x.number c.args.number in
    let l = c.args.calls.now in
    let found : c.position.result ≡ cond (ltb (position_or_len p l) (length l)) (Some (position_or_len p l)) None = position_from_yields_List p _ _ c.position.result c.position.ensures.ran (YieldsList-from_slice l cc) (λ x b q k. search (rules, tests)) in
    let there : c.position.result ≡ cond (ltb (place_of p l) (length l)) (Some (place_of p l)) None = found ∙ ap (λ (n : ℕ). cond (ltb n (length l)) (Some n) None) (position_place p l) in
    rw (c.unwrap_or.ensures, there) (place_or _ _ (place_low p l))
