-- `bytes::shifted` meets its contract. Assumes nothing.
use mathlib.Core.Path.{sym}
use native.Mathlib.Nat.{div-eq_of_lt, lt_of_lt_of_le}
use native.Mathlib.Omega.{arith}
use Prim.Native.Nat.{◌<◌, ◌^◌}
use lib.Pow.{pow_mono}
use Rattle.sheet.proofs.bytes.shifted.Goals as goal

pub returns-else-q-lt32 : goal.returns-else-q-lt32
returns-else-q-lt32 c =
    let small : c.args.mask < 2 ^ 32 = omega (arith, c.requires) in
    sym (div-eq_of_lt (lt_of_lt_of_le small (pow_mono c.if-q-lt32.false)))
