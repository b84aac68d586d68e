-- Where the tables stand, from the counts and from walking over the texts. Assumes nothing.
use mathlib.Core.Path.{◌≡◌, refl, sym, ap, ◌∙◌}
use mathlib.Core.Bool.{Bool, true, false, ◌&&◌}
use mathlib.Core.List.{List}
use Prim.Native.Nat.{ℕ, zero, suc, ◌+◌, ◌*◌, ◌≤◌, ◌<◌}
use native.Mathlib.Omega.{arith}
use borrow.Author.Tests.{ltb-true}
use lib.Dec.{ltb, eqb}
use lib.ListN.{length, get_or, drop}
use lib.Seq.{drop-drop}
use Rattle.sheet.specs.declared.Counts.{Counts}
use Rattle.sheet.specs.declared.Transition.{Transition}
use Rattle.sheet.specs.declared.Pair.{Pair}
use Rattle.sheet.specs.Bytes.{byte}
use Rattle.sheet.specs.Table.{Form, records, table, after, every}
use Rattle.sheet.specs.Decode.{wide, word_form, text_form, paired_form, template_form, transition_of, pair_form, conditions_at, actions_at, transitions_at, last_at}
use Rattle.sheet.specs.Reading.{no_template, pair_ranged}
use Rattle.sheet.specs.Walk.{Finds}
use Rattle.sheet.proofs.Tables.{fixed_after, fixed_start, length_records, table_at}
use Rattle.sheet.proofs.Readers.Loops.{byte_here, byte_past}

-- a test that every record passes
pub every_always : {A : Type 0} (p : A → Bool) (F : Form A) → ((s : List ℕ) → p (F.value s) ≡ true) → (n : ℕ) (s : List ℕ) → every p (records F n s) ≡ true
unfolding every records
every_always p F h zero s = refl
every_always p F h (suc n) s = rw (h s, every_always p F h n (drop (F.size s) s))

-- the tables, from the counts and from walking over each
module _ {T R : Type 0} (F : Form T) (G : Form R) (s : List ℕ) (v c a n m : ℕ) (ev : v ≡ byte s 6) (ec : c ≡ byte s 10) (ea : a ≡ byte s 11) (en : n ≡ byte s 12) (em : m ≡ byte s 13) (lv : v < 256) (lc : c < 256) (la : a < 256) (ln : n < 256) (b : Bool) (eb : b ≡ wide s) (x y z e : ℕ) (ex : x ≡ after (text_form b) c s (14 + v * 4)) (ey : y ≡ after (text_form false) a s x) (ez : z ≡ after F n s y) (ee : e ≡ after G m s z) (sx : x ≤ 14 + v * 4 + 65537 * c) (sy : y ≤ x + 65537 * a) (sz : z ≤ y + 65537 * n) where
  at_conditions : 14 + v * 4 ≡ conditions_at s
  unfolding conditions_at
  at_conditions = ap (λ (k : ℕ). 14 + k * 4) ev ∙ sym (fixed_after word_form 4 (λ t. refl) (byte s 6) s 14)

  at_actions : x ≡ actions_at s
  unfolding actions_at
  at_actions = ex ∙ rw (eb, ec, at_conditions)

  at_transitions : y ≡ transitions_at s
  unfolding transitions_at
  at_transitions = ey ∙ rw (ea, at_actions)

  at_last : z ≡ last_at F s
  unfolding last_at
  at_last = ez ∙ rw (en, at_transitions)

  pub tables_found : Finds F G s (record { conditions = 14 + v * 4; actions = x; transitions = y; last = z; end = e })
  tables_found =
      record {
        conditions = at_conditions;
        actions = at_actions;
        transitions = at_transitions;
        last = at_last;
        end = ee ∙ rw (em, at_last);
        small_conditions = omega arith;
        small_actions = omega arith;
        small_transitions = omega arith;
        small_last = omega arith;
      }

-- a template's unit by its number
pub template_unit : (s : List ℕ) (last m k u : ℕ) → (ltb k m && eqb (byte s (last + k * 2)) u) ≡ (ltb k (length (table template_form m s last)) && eqb (get_or (table template_form m s last) k no_template).unit u)
template_unit s last m k u = rw (length_records template_form m (drop last s)) (go (ltb k m) refl)
  where
    go : (b : Bool) → ltb k m ≡ b → (b && eqb (byte s (last + k * 2)) u) ≡ (b && eqb (get_or (table template_form m s last) k no_template).unit u)
    go true e =
        let h = ltb-true k m e in
        let f = table_at template_form m s last k no_template h in
        rw (← f, fixed_start template_form 2 (λ t. refl) m s last k 0 h, byte_here s (last + k * 2))
    go false e = refl

pub pair_found : (s : List ℕ) (p : Pair) (t : Transition) (n : Counts) (last m k b : ℕ) → k ≡ p.template → b ≡ byte s (last + k * 2) → (eqb t.kind 0 && (ltb p.condition n.conditions && (ltb k m && eqb b t.unit))) ≡ pair_ranged n (table template_form m s last) t p
unfolding pair_ranged
pair_found s p t n last m k b e f = rw (f, e, template_unit s last m p.template t.unit)

-- a transition with pairs, from the transition and its pairs: any test on both
pub paired_value : {X : Type 0} (f : Transition → List Pair → X) (s : List ℕ) (at : ℕ) (t : Transition) (k : ℕ) → t ≡ transition_of (drop at s) → k ≡ byte s (at + 6) → f t (table pair_form k s (at + 7)) ≡ f (paired_form.value (drop at s)).base (paired_form.value (drop at s)).pairs
paired_value f s at t k e g = rw (e, g, byte_past s at 6, ← drop-drop 7 at s)
