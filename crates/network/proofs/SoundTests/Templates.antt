-- The templates of an accepted network by their numbers. Assumes nothing.
use mathlib.Core.Path.{◌≡◌, refl, ap, ◌∙◌}
use mathlib.Core.Bool.{Bool, true, false}
use mathlib.Core.List.{List}
use Prim.Native.Nat.{ℕ, ◌+◌, ◌*◌, ◌≤◌}
use native.Mathlib.Omega.{arith}
use borrow.Author.Tests.{ltb-true, ltb-false}
use lib.Dec.{ltb}
use lib.ListN.{length, get_or, drop, drop_of_length-le, get_or-eq_default}
use Rattle.sheet.specs.Decode.{paired_form, template_form, last_in, last_at, network_of}
use Rattle.sheet.specs.Table.{table, starts}
use Rattle.sheet.specs.Reading.{no_template, network_layout}
use Rattle.sheet.proofs.Tables.{length_records, table_at, fixed_start, fixed_extent}
use Rattle.sheet.proofs.Accepted.{Accepted, tables_end}
use Rattle.network.specs.Network.{template_in}
use Rattle.network.specs.Walk.{template_at}

-- how many there are
pub templates_in : (s : List ℕ) → length (network_of s).templates ≡ last_in s
unfolding network_of
templates_in s = length_records template_form (last_in s) (drop (last_at paired_form s) s)

-- the bytes of the template of a number; past the last one stand zeros
pub template_there : {s : List ℕ} → Accepted network_layout s → (i : ℕ) → template_at s (last_at paired_form s) i ≡ template_in (network_of s) i
unfolding network_of
template_there {s} a i = go (ltb i (last_in s)) refl
  where
    at : ℕ
    at = last_at paired_form s

    past : last_in s ≤ i → template_at s at i ≡ template_in (network_of s) i
    past h =
        let e = fixed_extent template_form 2 (λ t. refl) (last_in s) (drop at s) in
        let f = tables_end a in
        let far : length s ≤ at + 2 * i = omega arith in
        let short : length (table template_form (last_in s) s at) ≤ i = omega (arith, length_records template_form (last_in s) (drop at s)) in
        rw (drop_of_length-le s far, get_or-eq_default (table template_form (last_in s) s at) no_template short)

    go : (b : Bool) → ltb i (last_in s) ≡ b → template_at s at i ≡ template_in (network_of s) i
    go true h =
        let k = ltb-true i (last_in s) h in
        let e : at + 2 * i ≡ get_or (starts template_form (last_in s) s at) i 0 = omega (arith, fixed_start template_form 2 (λ t. refl) (last_in s) s at i 0 k) in
        ap (λ p. template_form.value (drop p s)) e ∙ table_at template_form (last_in s) s at i no_template k
    go false h = past (ltb-false i (last_in s) h)
