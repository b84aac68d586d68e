-- `sound::checkers_clear` meets its contract. Assumes nothing.
use Rattle.std.proofs.Common.{rules, tests}
use Rattle.std.proofs.lemmas.Iterator.{YieldsList-from_slice}
use Rattle.step.proofs.OnLists.Alike.{every_from_all}
use Rattle.network.specs.Padded.{is_zero_checker}
use Rattle.network.proofs.sound.checkers_clear.Goals as goal

pub returns : goal.returns
returns c = every_from_all (is_zero_checker) _ _ c.all.result c.all.ensures.ran (YieldsList-from_slice c.args.places.now cc) (λ x b q k. search (rules, tests))
