-- The card's network moves, creates and judges as the network that it was made from, and its conditions exclude each other. Assumes nothing.
use mathlib.Core.Path.{◌≡◌, refl, sym, ap, ◌∙◌}
use mathlib.Core.Bool.{Bool, true}
use mathlib.Core.Option.{Option, none, some}
use mathlib.Core.List.{List, [], ◌∷◌, map}
use Prim.Native.Nat.{ℕ, zero, suc, ◌<◌}
use native.Mathlib.Omega.{arith}
use lib.ListN.{length, get_or, length-map, length-append}
use Rattle.condition.specs.Meaning.{Environment}
use Rattle.sheet.specs.declared.Transition.{Transition}
use Rattle.sheet.specs.declared.Pair.{Pair}
use Rattle.sheet.specs.declared.Template.{Template}
use Rattle.sheet.specs.Parts.{Common, Sheet, Paired, Network, bases}
use Rattle.sheet.specs.Table.{every}
use Rattle.sheet.specs.Decode.{sheet_of}
use Rattle.sheet.specs.Encode.{admitted}
use Rattle.sheet.specs.Reading.{formed, ranged, reading, sheet_layout, network_layout, pair_ranged, template_ranged, counts_of, no_template}
use Rattle.sheet.specs.Log.{Event}
use Rattle.sheet.proofs.Tests.{and_iff, leb_iff}
use Rattle.sheet.proofs.Accepted.{accepted}
use Rattle.step.specs.Lists.{Among, first, keep}
use Rattle.step.specs.Meets.{meets, acted}
use Rattle.step.specs.Moves.{Configuration, seen, enabled, after, moved}
use Rattle.step.proofs.OnLists.Lists.{head_of, first_keep, first_passes}
use Rattle.step.proofs.OnLists.Keeping.{keep_map, keep_same, every_among}
use Rattle.engine.proofs.MachineCarried.Carried.{image, first_image}
use Rattle.network.specs.declared.Checker.{Checker}
use Rattle.network.specs.Network.{template_in, pairs_in, created}
use Rattle.translation.specs.Translate.{translate, extended}
use Rattle.translation.specs.Card.{guarded_from, joined_conditions, with_conditions, separated, card}
use Rattle.translation.proofs.Networks.{translate_admitted}
use Rattle.agreement.specs.Realises.{Realises}
use Rattle.agreement.specs.Card.{holds_for, Exclusive}
use Rattle.agreement.proofs.Translation.{translate_realises}
use Rattle.agreement.proofs.Card.FirstAlone.{only, length_only, plain, meets_old, first_only}

-- First elements of images, and of the first alone.
head_image : {A B : Type 0} (f : A → B) (l : List A) → head_of (map f l) ≡ image f (head_of l)
head_image f [] = refl
head_image f (x ∷ l) = refl

head_only : {A : Type 0} (l : List A) → head_of (only l) ≡ head_of l
head_only [] = refl
head_only (x ∷ l) = refl

module _ (N : Network) (f : formed N.common ≡ true) where
  abbrev C : Common
  C = N.common

  abbrev D : Common
  D = with_conditions N.common (joined_conditions N)

  abbrev new : List Paired
  new = guarded_from (length N.common.conditions) N.transitions

  -- "Under any values at most one condition for a state, kind and unit holds."
  pub separated_exclusive : Exclusive (separated N)
  unfolding separated
  separated_exclusive state kind unit E =
      let p = holds_for D state kind unit E in
      let kept = keep (λ (t : Paired). p t.base) new in
      let count : length (keep p (map (λ (t : Paired). t.base) new)) ≡ length (only (map plain (keep (λ (t : Paired). holds_for C state kind unit E t.base) N.transitions)))
      = ap length (keep_map p (λ (t : Paired). t.base) new) ∙ length-map kept (λ (t : Paired). t.base) ∙ sym (length-map kept plain) ∙ ap length (first_only N f state kind unit E) in
      rw count (length_only (map plain (keep (λ (t : Paired). holds_for C state kind unit E t.base) N.transitions)))

  module _ (k : Configuration) (e : Event) where
    abbrev old_taken : Option Paired
    old_taken = first (λ (t : Paired). enabled C k e t.base) N.transitions

    abbrev new_taken : Option Paired
    new_taken = first (λ (t : Paired). enabled D k e t.base) new

    -- The transition taken is the same but for its condition.
    pub taken_same : image plain (first (λ (t : Paired). enabled (with_conditions N.common (joined_conditions N)) k e t.base) (guarded_from (length N.common.conditions) N.transitions))
        ≡ image plain (first (λ (t : Paired). enabled N.common k e t.base) N.transitions)
    unfolding enabled
    taken_same =
        let p : Paired → Bool = λ t. holds_for D k.main e.kind e.unit (seen e k) t.base in
        let q : Paired → Bool = λ t. holds_for C k.main e.kind e.unit (seen e k) t.base in
        ap (image plain) (first_keep p new) ∙ sym (head_image plain (keep p new))
        ∙ ap head_of (first_only N f k.main e.kind e.unit (seen e k)) ∙ head_only (map plain (keep q N.transitions))
        ∙ head_image plain (keep q N.transitions) ∙ ap (image plain) (sym (first_keep q N.transitions))

    moved_by : (o : Option Paired) → after N.common k e (image (λ (t : Paired). t.base) (image plain o)) ≡ after N.common k e (image (λ (t : Paired). t.base) o)
    moved_by none = refl
    moved_by (some t) = refl

    same_after : (o : Option Transition) → after (with_conditions N.common (joined_conditions N)) k e o ≡ after N.common k e o
    unfolding acted with_conditions
    same_after none = refl
    same_after (some t) = refl

    pub separated_moves : moved (separated N).common (bases (separated N)) k e ≡ moved N.common (bases N) k e
    unfolding moved separated
    separated_moves =
        ap (after D k e) (first_image (enabled D k e) (λ (t : Paired). t.base) new)
        ∙ same_after (image (λ (t : Paired). t.base) new_taken)
        ∙ sym (moved_by new_taken) ∙ ap (λ (o : Option Paired). after C k e (image (λ (t : Paired). t.base) o)) taken_same ∙ moved_by old_taken
        ∙ ap (after C k e) (sym (first_image (enabled C k e) (λ (t : Paired). t.base) N.transitions))

  module _ (r : ranged network_layout N.common N.transitions N.templates ≡ true) where
    pair_there : (t : Paired) → Among t N.transitions → (p : Pair) → Among p t.pairs → p.condition < length N.common.conditions
    unfolding ranged pair_ranged
    pair_there t m p n =
        let every-pair = (simp and_iff at (every_among (network_layout.transition_ranged C N.templates) N.transitions t (simp and_iff at r).0 m)).1 in
        (simp (and_iff, leb_iff) at (every_among (pair_ranged (counts_of C) N.templates t.base) t.pairs p every-pair n)).1.0

    pub separated_creates : (k : Configuration) (position : ℕ) (e : Event) → created (separated N) k position e ≡ created N k position e
    unfolding created separated
    separated_creates k position e =
        let show : List Pair → List Checker = λ l. map (λ (p : Pair). record { number = e.number; template = p.template; entry = position }) l in
        ap (λ (l : List Pair). show (keep (λ (p : Pair). meets D p.condition (seen e k)) l)) (sym (pairs_by (new_taken k e)) ∙ ap pairs_in (taken_same k e) ∙ pairs_by (old_taken k e))
        ∙ ap show (go (old_taken k e) refl)
      where
        pairs_by : (o : Option Paired) → pairs_in (image plain o) ≡ pairs_in o
        pairs_by none = refl
        pairs_by (some t) = refl

        go : (o : Option Paired) → first (λ (t : Paired). enabled C k e t.base) N.transitions ≡ o
            → keep (λ (p : Pair). meets D p.condition (seen e k)) (pairs_in o) ≡ keep (λ (p : Pair). meets C p.condition (seen e k)) (pairs_in o)
        go none h = keep_same _ _ [] (λ p m. absurd m)
        go (some t) h = keep_same _ _ t.pairs (λ p m. meets_old N f p.condition (seen e k) (pair_there t (first_passes (λ (t : Paired). enabled C k e t.base) N.transitions t h).0 p m))

    module _ (some-condition : 0 < length N.common.conditions) where
      below_all : (l : List Template) (i : ℕ) → every (template_ranged (counts_of N.common)) l ≡ true → (get_or l i no_template).postcondition < length N.common.conditions
      unfolding every template_ranged
      below_all [] i h = some-condition
      below_all (t ∷ l) zero h = (simp (and_iff, leb_iff) at h).0.1
      below_all (t ∷ l) (suc i) h = below_all l i (simp and_iff at h).1

      template_there : (i : ℕ) → (template_in N i).postcondition < length N.common.conditions
      unfolding ranged
      template_there i = below_all N.templates i (simp and_iff at r).1

      pub separated_judges : (i : ℕ) (E : Environment) → meets (separated N).common (template_in (separated N) i).postcondition E ≡ meets N.common (template_in N i).postcondition E
      unfolding separated
      separated_judges i E = meets_old N f (template_in N i).postcondition E (template_there i)

      -- What realises a sheet still does when its conditions are joined.
      pub separated_realises : (S : Sheet) → Realises S N → Realises S (separated N)
      unfolding separated with_conditions
      separated_realises S g = record {
        states = g.states;
        units = g.units;
        programs = g.programs;
        start = g.start;
        bad = g.bad;
        initial = g.initial;
        moves = λ k e. separated_moves k e ∙ g.moves k e;
        creates = λ k p e a b c. separated_creates k p e ∙ g.creates k p e a b c;
        judges = λ i E. separated_judges i E ∙ g.judges i E;
      }

-- The card's network of an accepted sheet.
module _ (s : List ℕ) (h : reading sheet_layout s ≡ 0) where
  abbrev N : Network
  N = translate (sheet_of s)

  translate_formed : formed (translate (sheet_of s)).common ≡ true
  unfolding admitted
  translate_formed = (simp and_iff at (translate_admitted (accepted sheet_layout s h))).1.1.1.0

  translate_ranged : ranged network_layout (translate (sheet_of s)).common (translate (sheet_of s)).transitions (translate (sheet_of s)).templates ≡ true
  unfolding admitted
  translate_ranged = (simp and_iff at (translate_admitted (accepted sheet_layout s h))).1.1.1.1.0

  translate_some : 0 < length (translate (sheet_of s)).common.conditions
  unfolding translate extended
  translate_some = rw (length-append (sheet_of s).common.conditions ((0 ∷ []) ∷ [])) (omega arith)

  pub card_exclusive : Exclusive (card (sheet_of s))
  unfolding card
  card_exclusive = separated_exclusive N translate_formed

  pub card_realises : Realises (sheet_of s) (card (sheet_of s))
  unfolding card
  card_realises = separated_realises N translate_formed translate_ranged translate_some (sheet_of s) (translate_realises (sheet_of s))
