-- `follow::given_at` meets its contract. Assumes nothing.
use Rattle.std.proofs.Common.{◌≡◌, ◌+◌, ◌*◌, ◌∙◌, arith}
use Rattle.sheet.specs.Bytes.{byte}
use Rattle.engine.proofs.OverLogs.Followed.{given_read}
use Rattle.engine.proofs.follow.given_at.Goals as goal

pub returns : goal.returns
returns c =
    let a = c.args in
    let number : c.from_be_bytes.result ≡ byte a.log.now (a.at + 2) * 256 + byte a.log.now (a.at + 3) = c.from_be_bytes.ensures ∙ omega arith in
    given_read a.log.now a.at a.programs _ _ number c.from.ensures
