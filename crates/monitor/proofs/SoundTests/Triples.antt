-- The triples of an accepted sheet by their numbers. Assumes nothing.
use mathlib.Core.Path.{◌≡◌, refl, ap, ◌∙◌}
use mathlib.Core.Bool.{Bool, true, false}
use mathlib.Core.List.{List}
use Prim.Native.Nat.{ℕ, ◌+◌, ◌*◌, ◌≤◌}
use native.Mathlib.Omega.{arith}
use borrow.Author.Tests.{ltb-true, ltb-false}
use lib.Dec.{ltb}
use lib.ListN.{length, get_or, drop, drop_of_length-le, get_or-eq_default}
use Rattle.sheet.specs.Decode.{transition_form, triple_form, last_in, last_at, sheet_of}
use Rattle.sheet.specs.Table.{table, starts}
use Rattle.sheet.specs.Reading.{sheet_layout}
use Rattle.sheet.proofs.Tables.{length_records, table_at, fixed_start, fixed_extent}
use Rattle.sheet.proofs.Accepted.{Accepted, tables_end}
use Rattle.monitor.specs.Monitor.{triple_in}
use Rattle.monitor.specs.Walk.{triple_at}

-- the bytes of the triple of a number; past the last one stand zeros
pub triple_there : {s : List ℕ} → Accepted sheet_layout s → (i : ℕ) → triple_at s (last_at transition_form s) i ≡ triple_in (sheet_of s) i
unfolding sheet_of
triple_there {s} a i = go (ltb i (last_in s)) refl
  where
    at : ℕ
    at = last_at transition_form s

    past : last_in s ≤ i → triple_at s at i ≡ triple_in (sheet_of s) i
    past h =
        let e = fixed_extent triple_form 4 (λ t. refl) (last_in s) (drop at s) in
        let f = tables_end a in
        let far : length s ≤ at + 4 * i = omega arith in
        let short : length (table triple_form (last_in s) s at) ≤ i = omega (arith, length_records triple_form (last_in s) (drop at s)) in
        rw (drop_of_length-le s far, get_or-eq_default (table triple_form (last_in s) s at) _ short)

    go : (b : Bool) → ltb i (last_in s) ≡ b → triple_at s at i ≡ triple_in (sheet_of s) i
    go true h =
        let k = ltb-true i (last_in s) h in
        let e : at + 4 * i ≡ get_or (starts triple_form (last_in s) s at) i 0 = omega (arith, fixed_start triple_form 4 (λ t. refl) (last_in s) s at i 0 k) in
        ap (λ p. triple_form.value (drop p s)) e ∙ table_at triple_form (last_in s) s at i _ k
    go false h = past (ltb-false i (last_in s) h)
