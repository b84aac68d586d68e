-- The paper's numbers (document 01, "What each operation turns away"; document 02 adds 21 for the card, 22 and 26 for the bench).
use Rattle.std.specs.Prelude.{ℕ}
use Rattle.refusal.specs.declared.Refusal.{Refusal}
use Rattle.refusal.specs.declared.Refusal.TheVariants as refusal

abbrev pub number_of : Refusal → ℕ
number_of refusal.Size = 1
number_of refusal.Version = 2
number_of refusal.Counts = 3
number_of refusal.Lengths = 4
number_of refusal.Grammar = 5
number_of refusal.Ranges = 6
number_of refusal.Roles = 7
number_of refusal.Crowded = 8
number_of refusal.Unsound = 9
number_of refusal.Judged = 10
number_of refusal.Unfit = 11
number_of refusal.LastPosition = 12
number_of refusal.AlreadyOpen = 13
number_of refusal.Full = 14
number_of refusal.NotOpen = 15
number_of refusal.LogHead = 16
number_of refusal.LogPrograms = 17
number_of refusal.LogRecords = 18
number_of refusal.ShortBuffer = 19
number_of refusal.TooLong = 21
number_of refusal.OutOfRange = 22
number_of refusal.NotListed = 26
