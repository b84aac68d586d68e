-- Reading a log and its records, and what the crate's readers answer. Assumes nothing.
use mathlib.Core.Path.{◌≡◌}
use mathlib.Core.Bool.{true, false, ◌&&◌}
use mathlib.Core.List.{List}
use Prim.Native.Nat.{ℕ, ◌+◌, ◌-◌, ◌/◌, ◌%◌, ◌≤◌}
use native.Mathlib.Omega.{arith}
use borrow.Author.Tests.{leb-true, eq-eqb, ne_eqb}
use lib.Dec.{leb, eqb}
use lib.ListN.{length, drop}
use Rattle.sheet.specs.declared.walk.Tables.{Tables}
use Rattle.sheet.specs.Bytes.{byte, half, word}
use Rattle.sheet.specs.Reading.{Layout}
use Rattle.sheet.specs.Log.{record_size, log_reading, records_in}
use Rattle.sheet.specs.Answer.{accepted, refused, read_of, places_of}
use Rattle.sheet.specs.Walk.{Finds, places_by}
use Rattle.sheet.proofs.Tables.{and_parts}
use Rattle.sheet.proofs.Readers.Loops.{byte_here, byte_past}

-- the places, by the tables
pub places_found : {T R : Type 0} (F : Layout T R) (s : List ℕ) (t : Tables) → Finds F.transition F.last s t → places_by s t ≡ places_of F s
places_found F s t f = rw (f.conditions, f.actions, f.transitions, f.last)

module _ (P : ℕ) (s : List ℕ) (w v l : ℕ) (ew : w ≡ word s 0) (ev : v ≡ byte s 4) (el : l ≡ byte s 5) where
  pub log_16 : (leb 6 (length s) && (eqb w (length s) && eqb v 1)) ≡ false → refused 16 ≡ read_of (log_reading P s) (records_in P s)
  unfolding log_reading
  log_16 e = rw (← ew, ← ev, e)

  module _ (a : (leb 6 (length s) && (eqb w (length s) && eqb v 1)) ≡ true) where
    pub log_long : 6 ≤ length s
    log_long = leb-true 6 (length s) (and_parts (leb 6 (length s)) (eqb w (length s) && eqb v 1) a).0

    pub log_17 : (l ≡ P → ⊥) → refused 17 ≡ read_of (log_reading P s) (records_in P s)
    unfolding log_reading
    log_17 e = rw (← ew, ← ev, a, ← el, ne_eqb l P e)

    module _ (b : l ≡ P) where
      pub log_18 : ((length s - 6) % record_size P ≡ 0 → ⊥) → refused 18 ≡ read_of (log_reading P s) (records_in P s)
      unfolding log_reading
      log_18 e = rw (← ew, ← ev, a, ← el, eq-eqb l P b, ne_eqb ((length s - 6) % record_size P) 0 e)

      pub log_accepted : (length s - 6) % record_size P ≡ 0 → accepted ((length s - 6) / record_size P) ≡ read_of (log_reading P s) (records_in P s)
      unfolding log_reading records_in
      log_accepted e = rw (← ew, ← ev, a, ← el, eq-eqb l P b, eq-eqb ((length s - 6) % record_size P) 0 e)

-- words from a place on
pub word_here : (s : List ℕ) (a : ℕ) → word s a ≡ word (drop a s) 0
word_here s a = rw (byte_here s a, byte_past s a 1, byte_past s a 2, byte_past s a 3)

pub half_past : (s : List ℕ) (a : ℕ) → half s (a + 2) ≡ half (drop a s) 2
half_past s a =
    let e : a + 2 + 1 ≡ a + 3 = omega arith in
    rw (e, byte_past s a 2, byte_past s a 3)
