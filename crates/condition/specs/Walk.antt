-- What the private functions that walk over the bytes promise. Places in the bytes stand for what is left of them.
use Rattle.std.specs.Prelude.{◌≡◌, ℕ, ◌+◌, ◌-◌, ◌/◌, ◌%◌, ◌^◌, ◌<◌, ◌≤◌, Bool, true, false, cond, List, [], length, drop, ◌==◌, ◌≢◌, nat_le, nat_lt, slice_index, slice_index_or, slice_set, Option, Some, None}
use Rattle.std.specs.Borrow.{Bor}
use Rattle.condition.specs.declared.Lent.{Lent}
use Rattle.condition.specs.Word.{big_endian}
use Rattle.condition.specs.Tree.{Condition, Value}
use Rattle.condition.specs.Parse.{Parsed, malformed, parsed, Reader, condition_from, value_from, assignment_from}
use Rattle.condition.specs.Meaning.{Environment, environment, lent, holds, word}
use Rattle.condition.specs.Count.{condition_count, value_count}
use Rattle.condition.specs.Answer.{Evaluation, refused, given}

abbrev pub bit : Bool → ℕ
bit true = 1
bit false = 0

abbrev pub lent_of : ℕ → ℕ → ℕ → Lent
lent_of p m k = record { programs = p; monitors = m; kept = k }

-- r is the place in s behind what was parsed, or one past the end where it is malformed
abbrev pub Ends : {A : Type 0} → List ℕ → ℕ → Parsed A → Type 0
Ends s r malformed = r ≡ length s + 1
Ends s r (parsed a rest) = (drop r s ≡ rest) × (r ≤ length s)

-- r is where what a reader finds at a place of s ends, for any depth that is enough
pub record Skips {A : Type 0} (R : ℕ → Reader A) (s : List ℕ) (at r : ℕ) : Type 0 where
  pub low : at ≤ r
  pub high : r ≤ length s + 1
  pub ends : (k : ℕ) → length s - at ≤ k → Ends s r (R k (drop at s))

abbrev pub condition_reader : Lent → ℕ → Reader Condition
condition_reader L k s = condition_from k L s

abbrev pub value_reader : Lent → ℕ → Reader Value
value_reader L k s = value_from k L s

-- what holds of the tree that was parsed, if there is one
abbrev pub Gives : {A : Type 0} → (A → Type 0) → Parsed A → Type 0
Gives P malformed = Unit {0}
Gives P (parsed a rest) = P a

-- w is its meaning, and m is n more than how much of it is evaluated
abbrev pub Means : {A : Type 0} → (A → ℕ) → (A → ℕ) → ℕ → ℕ → ℕ → Parsed A → Type 0
Means f g n w m p = Gives (λ a. (w ≡ f a) × (m ≡ n + g a)) p

-- From a place, with a count of n so far: place is where it ends, number its meaning, total the count behind it. No more is counted than there are bytes in front.
pub record Evaluates {A : Type 0} (R : ℕ → Reader A) (f g : A → ℕ) (s : List ℕ) (at n place number total : ℕ) : Type 0 where
  pub skips : Skips R s at place
  pub few : total ≤ place
  pub means : (k : ℕ) → length s - at ≤ k → Means f g n number total (R k (drop at s))

abbrev pub condition_bit : Environment → Condition → ℕ
condition_bit E c = bit (holds c E)

abbrev pub value_word : Environment → Value → ℕ
value_word E e = word e E

abbrev pub condition_reached : Environment → Condition → ℕ
condition_reached E c = condition_count c E

abbrev pub value_reached : Environment → Value → ℕ
value_reached E e = value_count e E

-- The environment of three slices that are lent in one array: present program values, monitor variables, values kept at entry.
abbrev pub bank : List (Bor (List ℕ)) → ℕ → List ℕ
bank l i = (slice_index_or l i (record { ref_ptr = (0, 0); now = [] })).now

unfoldable pub banks : List (Bor (List ℕ)) → Environment
banks l = environment (bank l 0) (bank l 1) (bank l 2)

-- the condition, and the value, at a place
abbrev pub EvaluatesCondition : Environment → List ℕ → ℕ → ℕ → ℕ → ℕ → ℕ → Type 0
EvaluatesCondition E s at n r w m = Evaluates (condition_reader (lent E)) (condition_bit E) (condition_reached E) s at n r w m

abbrev pub EvaluatesValue : Environment → List ℕ → ℕ → ℕ → ℕ → ℕ → ℕ → Type 0
EvaluatesValue E s at n r w m = Evaluates (value_reader (lent E)) (value_word E) (value_reached E) s at n r w m

-- A cursor is a count times 2^16, and a place. One in some bytes, or just past them: no more is counted than there are bytes in front.
abbrev pub Cursor : List ℕ → ℕ → Type 0
Cursor s c = (length s ≤ 65534) × ((c % 65536 ≤ length s + 1) × (c / 65536 ≤ c % 65536))

-- what stands at one, and the cursor behind it
abbrev pub ConditionAt : Environment → List ℕ → ℕ → ℕ → ℕ → Type 0
ConditionAt E s c q w = EvaluatesCondition E s (c % 65536) (c / 65536) (q % 65536) w (q / 65536)

abbrev pub ValueAt : Environment → List ℕ → ℕ → ℕ → ℕ → Type 0
ValueAt E s c q w = EvaluatesValue E s (c % 65536) (c / 65536) (q % 65536) w (q / 65536)

-- what is passed over is not counted
pub record Passes {A : Type 0} (R : ℕ → Reader A) (s : List ℕ) (c r : ℕ) : Type 0 where
  pub skips : Skips R s (c % 65536) (r % 65536)
  pub count : r / 65536 ≡ c / 65536

-- a cursor and a truth, a cursor and a word, in one number
pub record Judged (next : ℕ) (b : Bool) (r : ℕ) : Type 0 where
  pub place : r / 2 ≡ next
  pub truth : r % 2 ≡ bit b

pub record Packed (next w r : ℕ) : Type 0 where
  pub place : r / 2 ^ 32 ≡ next
  pub value : r % 2 ^ 32 ≡ w

-- Where the four bytes, and the number of a variable below a limit, that follow the operator at a place end.
abbrev pub literal_end : List ℕ → ℕ → ℕ
literal_end s at = cond (nat_le (at + 5) (length s)) (at + 5) (length s + 1)

abbrev pub variable_end : List ℕ → ℕ → ℕ → ℕ
variable_end s at limit = cond (nat_lt (at + 1) (length s)) (cond (nat_lt (slice_index s (at + 1)) limit) (at + 2) (length s + 1)) (length s + 1)

-- The words there, 0 where there are none.
abbrev pub literal_at : List ℕ → ℕ → ℕ
literal_at s at = cond (nat_le (at + 5) (length s)) (big_endian (slice_index s (at + 1)) (slice_index s (at + 2)) (slice_index s (at + 3)) (slice_index s (at + 4))) 0

abbrev pub variable_at : List ℕ → ℕ → List ℕ → ℕ
variable_at s at values = cond (nat_lt (at + 1) (length s)) (cond (nat_lt (slice_index s (at + 1)) (length values)) (slice_index values (slice_index s (at + 1))) 0) 0

-- What a number that is 0 where nothing was found promises, found or not.
pub record Tried (Found None : Type 0) (r : ℕ) : Type 0 where
  pub found : (r ≢ 0) → Found
  pub none : r ≡ 0 → None

-- a place, which is one past the end, and 0, where there is none
abbrev pub EndTried : List ℕ → ℕ → ℕ → Type 0
EndTried s next r = Tried (r ≡ next) (next ≡ length s + 1) r

-- The constant, and the variable, at a cursor and its place, with the cursor behind it: where there is none, too few bytes, or none that is lent.
abbrev pub LiteralTried : List ℕ → ℕ → ℕ → ℕ → ℕ → Type 0
LiteralTried s c at q w = Tried ((at + 5 ≤ length s) × ((q ≡ c + 65541) × (w ≡ literal_at s at))) (length s < at + 5) q

abbrev pub VariableTried : List ℕ → ℕ → ℕ → List ℕ → ℕ → ℕ → Type 0
VariableTried s c at values q w = Tried ((slice_index s (at + 1) < length values) × ((q ≡ c + 65538) × (w ≡ variable_at s at values))) (length values ≤ slice_index s (at + 1)) q

-- There is a byte at the place, and it is not the operator of a value that has operands.
abbrev pub NoOperands : List ℕ → ℕ → Type 0
NoOperands s at = (at < length s) × ((slice_index s at ≢ 20) × ((slice_index s at ≢ 21) × (slice_index s at ≢ 22)))

-- A constant or a variable at a place, passed over and evaluated. Where there is none, no value is there unless it has operands.
abbrev pub LeafSkipped : Lent → List ℕ → ℕ → ℕ → Type 0
LeafSkipped L s at r = Tried (Skips (value_reader L) s at r) (NoOperands s at → Skips (value_reader L) s at (length s + 1)) r

abbrev pub LeafEvaluated : Environment → List ℕ → ℕ → ℕ → ℕ → Type 0
LeafEvaluated E s c q w = Tried (ValueAt E s c q w) (NoOperands s (c % 65536) → EvaluatesValue E s (c % 65536) (c / 65536) (length s + 1) 0 0) q

-- A comparison of two of them at a cursor, judged. Where there is none, nothing is said.
abbrev pub SimpleEvaluated : Environment → List ℕ → ℕ → ℕ → Type 0
SimpleEvaluated E s c r = Tried (ConditionAt E s c (r / 2) (r % 2)) (Unit {0}) r

abbrev pub negated : ℕ → Bool
negated n = n == 0

-- r is where the assignment at a place of s ends; its value takes a level less than the bytes there
pub record SkipsAssignment (L : Lent) (s : List ℕ) (at r : ℕ) : Type 0 where
  pub low : at + 1 ≤ r
  pub high : r ≤ length s + 1
  pub ends : (k : ℕ) → length s - (at + 1) ≤ k → Ends s r (assignment_from k L (drop at s))

-- From a place, with a count of n so far: after is what the assignment there makes of the first variables of before, and total the count behind it.
pub record Assigns (E : Environment) (s : List ℕ) (at n r total count : ℕ) (before after : List ℕ) : Type 0 where
  pub skips : SkipsAssignment (lent E) s at r
  pub few : total ≤ r
  pub long : length after ≡ length before
  pub rest : drop count after ≡ drop count before
  pub means : (k : ℕ) → length s - (at + 1) ≤ k → Gives (λ a. (after ≡ slice_set before a.target (word a.source E)) × ((a.target < count) × (total ≡ n + value_count a.source E))) (assignment_from k (lent E) (drop at s))

-- what is answered for a run that was carried out, with how much was evaluated of it, or was malformed
abbrev pub ran : Option ℕ → Evaluation (Unit {0})
ran (Some n) = given tt
ran None = refused 5

abbrev pub evaluated : Option ℕ → ℕ
evaluated (Some n) = n
evaluated None = 0
