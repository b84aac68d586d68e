-- `sound::calls_sound` meets its contract. Assumes nothing.
use Rattle.std.proofs.Common.{◌∙◌, rules, tests}
use Rattle.std.proofs.lemmas.Iterator.{YieldsList-from_slice, YieldsList-from_zip}
use Rattle.std.specs.Iterator.Adapters.{zip_first, zip_second}
use Rattle.sheet.specs.Decode.{sheet_of}
use Rattle.step.proofs.OnLists.Alike.{every_from_all}
use Rattle.step.specs.declared.Call.{Call}
use Rattle.monitor.specs.declared.Arms.{Arms}
use Rattle.monitor.specs.Padded.{unpad_armed}
use Rattle.monitor.specs.Sound.{call_sound}
use Rattle.monitor.proofs.SoundTests.Testing.{every_zip}
use Rattle.monitor.proofs.sound.calls_sound.Goals as goal

pub returns : goal.returns
returns c =
    let P = c.args.t.header.programs in
    every_from_all {s = c.zip.result} (λ (x : Call × Arms). call_sound (sheet_of c.args.s.now) (unpad_armed P x.0 x.1)) c.all.new.self _ c.all.result c.all.ensures.ran (YieldsList-from_zip {s = c.zip.result} (YieldsList-from_slice {s = zip_first c.zip.result} c.args.calls.now cc) (YieldsList-from_slice {s = zip_second c.zip.result} c.args.arms.now cc)) (λ x b q k. search (rules, tests))
    ∙ every_zip (unpad_armed P) (call_sound (sheet_of c.args.s.now)) c.args.calls.now c.args.arms.now
