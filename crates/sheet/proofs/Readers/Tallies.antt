-- Triples counted in an array, by state and unit. Assumes nothing.
use mathlib.Core.Path.{◌≡◌, refl, sym, subst, ◌∙◌}
use mathlib.Core.Bool.{Bool, true, false, false≢true, ◌&&◌}
use mathlib.Core.List.{List, [], ◌∷◌}
use mathlib.Core.Logic.{◌≢◌}
use Prim.Native.Nat.{ℕ, zero, suc, ◌+◌, ◌-◌, ◌*◌, ◌≤◌, ◌<◌}
use native.Mathlib.Nat.{sub-zero}
use native.Mathlib.Omega.{arith}
use borrow.Author.Tests.{leb-true, le-leb, eqb-true, eqb-false, eq-eqb}
use lib.Dec.{eqb, leb}
use lib.ListN.{length, get_or, set, drop, replicate, length-replicate, length-set}
use lib.Seq.{get_or-set_same, get_or-set_other}
use Rattle.sheet.specs.declared.Triple.{Triple}
use Rattle.sheet.specs.Table.{records, table, every}
use Rattle.sheet.specs.Decode.{triple_form}
use Rattle.sheet.specs.Reading.{together}
use Rattle.sheet.specs.Walk.{within}
use Rattle.sheet.proofs.Tests.{and_iff, leb_iff, eqb_iff}
use Rattle.sheet.proofs.Tables.{and_parts, and_both, table_step, every_weaker}

-- a place for each state and unit
abbrev cell : Triple → ℕ
cell t = 16 * t.state + t.unit

abbrev alike : Triple → Triple → Bool
alike u t = eqb u.state t.state && eqb u.unit t.unit

alike_cell : (u t : Triple) → alike u t ≡ true → cell t ≡ cell u
alike_cell u t e = let f = simp (and_iff, eqb_iff) at e in omega arith

cell_alike : (u t : Triple) → within u ≡ true → within t ≡ true → cell t ≡ cell u → alike u t ≡ true
cell_alike u t h k e =
    let f = simp (and_iff, leb_iff) at h in
    let g = simp (and_iff, leb_iff) at k in
    and_both (eq-eqb u.state t.state (omega arith)) (eq-eqb u.unit t.unit (omega arith))

-- what 8 asks
abbrev apart : List Triple → Bool
apart l = every (λ t. leb (together t l) 4) l

-- With the rest of all to go: what is counted of a state and unit and what the rest has of it are what all have of it.
pub record Tallied (all rest : List Triple) (counts : List ℕ) : Type 0 where
  pub part : (p : Triple → Bool) → every p all ≡ true → every p rest ≡ true
  pub tallied : (t : Triple) → within t ≡ true → get_or counts (cell t) 0 + together t rest ≡ together t all
  pub few : (i : ℕ) → get_or counts i 0 ≤ 4
  pub long : length counts ≡ 256

zeros : (n i : ℕ) → get_or {A = ℕ} (replicate n 0) i 0 ≡ 0
zeros zero i = refl
zeros (suc n) zero = refl
zeros (suc n) (suc i) = zeros n i

tallied_start : (all : List Triple) (counts : List ℕ) → length counts ≡ 256 → ((i : ℕ) → get_or counts i 0 ≡ 0) → Tallied all all counts
tallied_start all counts l z = record { part = λ p e. e; tallied = λ t h. rw (z (cell t)) (omega arith); few = λ i. rw (z i) (omega arith); long = l }

module _ (all : List Triple) (ranged : every within all ≡ true) (counts : List ℕ) where
  tallied_end : Tallied all [] counts → true ≡ apart all
  unfolding together
  tallied_end g = sym (every_weaker within (λ t. leb (together t all) 4) (λ t h. le-leb (together t all) 4 (omega (arith, g.tallied t h, g.few (cell t)))) all ranged)

  module _ (u : Triple) (rest : List Triple) (g : Tallied all (u ∷ rest) counts) where
    here : within u ≡ true
    unfolding every
    here = (and_parts (within u) (every within rest) (g.part within ranged)).0

    tallied_below : cell u < 256
    tallied_below = let f = simp (and_iff, leb_iff) at here in omega arith

    -- a fifth
    tallied_full : 4 ≤ get_or counts (cell u) 0 → false ≡ apart all
    unfolding every together
    tallied_full k = go (apart all) refl
      where
        go : (b : Bool) → apart all ≡ b → false ≡ apart all
        go false e = sym e
        go true e =
            let most = leb-true (together u all) 4 (and_parts (leb (together u all) 4) (every (λ t. leb (together t all) 4) rest) (g.part (λ t. leb (together t all) 4) e)).0 in
            let more = rw (cell_alike u u here here refl) at (g.tallied u here) in
            absurd (omega arith)

    abbrev raised : List ℕ
    raised = set counts (cell u) (get_or counts (cell u) 0 + 1)

    tallied_next : get_or counts (cell u) 0 < 4 → Tallied all rest raised
    unfolding every together
    tallied_next k =
        record {
          part = λ p e. (and_parts (p u) (every p rest) (g.part p e)).1;
          tallied = λ t h. same t h (alike u t) refl;
          few = λ i. most i (eqb i (cell u)) refl;
          long = length-set counts (cell u) _ ∙ g.long;
        }
      where
        own : get_or raised (cell u) 0 ≡ get_or counts (cell u) 0 + 1
        own = get_or-set_same counts (cell u) _ 0 (rw g.long tallied_below)

        other : (i : ℕ) → (i ≡ cell u → ⊥) → get_or raised i 0 ≡ get_or counts i 0
        other i h = get_or-set_other counts (cell u) i _ 0 h

        same : (t : Triple) → within t ≡ true → (b : Bool) → alike u t ≡ b → get_or raised (cell t) 0 + together t rest ≡ together t all
        same t h true e =
            let c = alike_cell u t e in
            rw (c, own) (omega (arith, rw c at (rw e at (g.tallied t h))))
        same t h false e = rw (other (cell t) (λ c. false≢true (sym e ∙ cell_alike u t here h c))) (rw e at (g.tallied t h))

        most : (i : ℕ) (b : Bool) → eqb i (cell u) ≡ b → get_or raised i 0 ≤ 4
        most i true e = rw (eqb-true i (cell u) e, own) (omega arith)
        most i false e = rw (other i (eqb-false i (cell u) e)) (g.few i)

-- A loop over a table, with the triples from number i on still to count, of which the first begins at `place`.
pub record Tallying (n : ℕ) (s : List ℕ) (at : ℕ) (counts : List ℕ) (place i : ℕ) : Type 0 where
  pub all : Tallied (table triple_form n s at) (table triple_form (n - i) s place) counts
  pub room : place ≤ at + 4 * i

pub tallying_start : (n : ℕ) (s : List ℕ) (at : ℕ) → Tallying n s at (replicate 256 0) at 0
tallying_start n s at = record { all = rw (sub-zero n) (tallied_start (table triple_form n s at) (replicate 256 0) (length-replicate {A = ℕ} 256 0) (zeros 256)); room = omega arith }

module _ (n : ℕ) (s : List ℕ) (at : ℕ) (ranged : every within (table triple_form n s at) ≡ true) (counts : List ℕ) (place i : ℕ) (g : Tallying n s at counts place i) where
  abbrev triples : List Triple
  triples = table triple_form n s at

  abbrev onwards : ℕ → List Triple
  onwards k = table triple_form k s place

  pub tallying_end : n ≤ i → true ≡ apart triples
  unfolding records
  tallying_end z =
      let m : n - i ≡ 0 = omega arith in
      tallied_end triples ranged counts (subst (λ (k : ℕ). Tallied triples (onwards k) counts) m g.all)

  module _ (z : i < n) (u : Triple) (a b : ℕ) (eu : u ≡ triple_form.value (drop place s)) (ea : a ≡ u.state) (eb : b ≡ u.unit) where
    abbrev rest : List Triple
    rest = table triple_form (n - (i + 1)) s (place + 4)

    present : Tallied triples (u ∷ rest) counts
    present =
        let m : n - i ≡ suc (n - (i + 1)) = omega arith in
        rw eu (rw (table_step triple_form (n - (i + 1)) s place) at (subst (λ (k : ℕ). Tallied triples (onwards k) counts) m g.all))

    pub tallying_below : 16 * a + b < 256
    tallying_below = rw (ea, eb) (tallied_below triples ranged counts u rest present)

    pub tallying_full : get_or counts (16 * a + b) 0 ≡ 4 → false ≡ apart triples
    tallying_full k = tallied_full triples ranged counts u rest present (let e = rw (ea, eb) at k in omega arith)

    pub tallying_next : (get_or counts (16 * a + b) 0 ≡ 4 → ⊥) → Tallying n s at (set counts (16 * a + b) (get_or counts (16 * a + b) 0 + 1)) (place + 4) (i + 1)
    tallying_next k =
        let e : get_or counts (cell u) 0 ≢ 4 = rw (ea, eb) at k in
        record { all = rw (ea, eb) (tallied_next triples ranged counts u rest present (omega (arith, g.all.few (cell u)))); room = omega (arith, g.room) }
