-- Of the transitions whose condition holds, the card's network has the first alone. Assumes nothing.
use mathlib.Core.Path.{◌≡◌, refl, ap, ◌∙◌}
use mathlib.Core.Bool.{Bool, true, false, not, cond, ◌&&◌}
use mathlib.Core.List.{List, [], ◌∷◌, ◌++◌, map}
use Prim.Native.Nat.{ℕ, suc, ◌+◌, ◌≤◌, ◌<◌}
use native.Mathlib.Omega.{arith}
use borrow.Author.Tests.{eqb-true}
use lib.Dec.{eqb}
use lib.Seq.{get_or-append-add}
use lib.ListN.{length, get_or, get_or-append}
use Rattle.condition.specs.Parse.{parse_condition}
use Rattle.condition.specs.Meaning.{Environment, holds}
use Rattle.condition.specs.Answer.{whether}
use Rattle.sheet.specs.declared.Transition.{Transition}
use Rattle.sheet.specs.Parts.{Common, Paired, Network}
use Rattle.sheet.specs.Reading.{lent_in, condition_in, formed}
use Rattle.step.specs.Lists.{keep, any}
use Rattle.step.proofs.OnLists.Turns.{any_append}
use Rattle.step.specs.Meets.{meets}
use Rattle.translation.specs.Card.{is_of, joined_text, joined_from, guarded_by, guarded_from, joined_conditions, with_conditions}
use Rattle.agreement.specs.Card.{holds_for}
use Rattle.agreement.proofs.Card.Joined.{says_parses, joins}

any_more : {A : Type 0} (p : A → Bool) (l : List A) (x : A) → any p (l ++ x ∷ []) ≡ cond (any p l) true (p x)
unfolding any
any_more p l x = any_append p l (x ∷ []) ∙ ap (cond (any p l) true) (go (p x))
  where
    go : (b : Bool) → cond b true false ≡ b
    go true = refl
    go false = refl

any_same : {A : Type 0} (p q : A → Bool) → ((x : A) → p x ≡ q x) → (l : List A) → any p l ≡ any q l
unfolding any
any_same p q h [] = refl
any_same p q h (x ∷ l) = rw (h x, any_same p q h l)

-- the first element alone
abbrev pub only : {A : Type 0} → List A → List A
only [] = []
only (x ∷ l) = x ∷ []

pub length_only : {A : Type 0} (l : List A) → length (only l) ≤ 1
length_only [] = omega arith
length_only (x ∷ l) = omega arith

-- a transition without its condition
abbrev pub plain : Paired → Paired
plain t = guarded_by 0 t

module _ (N : Network) (f : formed N.common ≡ true) where
  abbrev C : Common
  C = N.common

  abbrev D : Common
  D = with_conditions N.common (joined_conditions N)

  pub meets_old : (i : ℕ) (E : Environment) → i < length N.common.conditions → meets (with_conditions N.common (joined_conditions N)) i E ≡ meets N.common i E
  unfolding meets with_conditions
  meets_old i E h = ap (λ (t : List ℕ). whether (parse_condition (lent_in C) t) (λ c. holds c E)) (get_or-append C.conditions (joined_conditions N) (0 ∷ []) i h)

  module _ (state kind unit : ℕ) (E : Environment) where
    abbrev p : Transition → Bool
    p = holds_for C state kind unit E

    abbrev p' : Transition → Bool
    p' = holds_for D state kind unit E

    meets_new : (t : Transition) (earlier : List Transition) (i : ℕ) → condition_in (with_conditions N.common (joined_conditions N)) i ≡ joined_text N.common t earlier
        → meets (with_conditions N.common (joined_conditions N)) i E ≡ (not (any (λ u. is_of t.from t.kind t.unit u && meets N.common u.condition E) earlier) && meets N.common t.condition E)
    unfolding meets with_conditions
    meets_new t earlier i e =
        let j = joins C f t earlier in
        ap (λ (x : List ℕ). whether (parse_condition (lent_in C) x) (λ c. holds c E)) e ∙ rw (says_parses j.says) (j.means E)

    -- A transition of the card's network is enabled where the old one is and none before it was.
    enabled_new : (t : Transition) (earlier : List Transition) (i : ℕ) → condition_in (with_conditions N.common (joined_conditions N)) i ≡ joined_text N.common t earlier
        → holds_for (with_conditions N.common (joined_conditions N)) state kind unit E (record { from = t.from; kind = t.kind; unit = t.unit; condition = i; action = t.action; to = t.to })
        ≡ (not (any (holds_for N.common state kind unit E) earlier) && holds_for N.common state kind unit E t)
    enabled_new t earlier i e = rw (meets_new t earlier i e) (go (eqb t.from state) refl (eqb t.kind kind) refl (eqb t.unit unit) refl)
      where
        none_holds : (b : Bool) → false ≡ (not b && false)
        none_holds true = refl
        none_holds false = refl

        flat : (a b c d : Bool) → ((a && (b && c)) && d) ≡ (a && (b && (c && d)))
        flat true true c d = refl
        flat true false c d = refl
        flat false b c d = refl

        go : (a : Bool) → eqb t.from state ≡ a → (b : Bool) → eqb t.kind kind ≡ b → (c : Bool) → eqb t.unit unit ≡ c
            → (a && (b && (c && (not (any (λ u. is_of t.from t.kind t.unit u && meets C u.condition E) earlier) && meets C t.condition E)))) ≡ (not (any p earlier) && (a && (b && (c && meets C t.condition E))))
        go true x true y true z =
            let same : (u : Transition) → (is_of t.from t.kind t.unit u && meets C u.condition E) ≡ holds_for C state kind unit E u = λ u. rw (eqb-true t.from state x, eqb-true t.kind kind y, eqb-true t.unit unit z) (flat (eqb u.from state) (eqb u.kind kind) (eqb u.unit unit) (meets C u.condition E)) in
            ap (λ b. not b && meets C t.condition E) (any_same _ _ same earlier)
        go true x true y false z = none_holds (any p earlier)
        go true x false y c z = none_holds (any p earlier)
        go false x b y c z = none_holds (any p earlier)

    -- Those that hold: the first of the old ones alone, and none where an earlier one holds.
    kept_new : (l : List Paired) (earlier : List Transition) (i : ℕ)
        → ((j : ℕ) → condition_in (with_conditions N.common (joined_conditions N)) (i + j) ≡ get_or (joined_from N.common earlier (map (λ (t : Paired). t.base) l)) j (0 ∷ []))
        → map plain (keep (λ (t : Paired). holds_for (with_conditions N.common (joined_conditions N)) state kind unit E t.base) (guarded_from i l))
        ≡ cond (any (holds_for N.common state kind unit E) earlier) [] (only (map plain (keep (λ (t : Paired). holds_for N.common state kind unit E t.base) l)))
    unfolding keep guarded_from joined_from
    kept_new [] earlier i h = go (any p earlier)
      where
        go : (b : Bool) → ◌≡◌ {A = List Paired} [] (cond b [] [])
        go true = refl
        go false = refl
    kept_new (t ∷ l) earlier i h =
        let here : condition_in D i ≡ joined_text C t.base earlier = ap (condition_in D) (omega arith) ∙ h 0 in
        let next = kept_new l (earlier ++ t.base ∷ []) (suc i) (λ j. ap (condition_in D) (omega arith) ∙ h (suc j)) in
        rw (enabled_new t.base earlier i here) (go (any p earlier) (p t.base) (next ∙ ap (λ b. cond b [] (only (map plain (keep (λ (t : Paired). p t.base) l)))) (any_more p earlier t.base)))
      where
        go : (a b : Bool) → map plain (keep (λ (t : Paired). p' t.base) (guarded_from (suc i) l)) ≡ cond (cond a true b) [] (only (map plain (keep (λ (t : Paired). p t.base) l)))
            → map plain (cond (not a && b) (guarded_by i t ∷ keep (λ (t : Paired). p' t.base) (guarded_from (suc i) l)) (keep (λ (t : Paired). p' t.base) (guarded_from (suc i) l)))
            ≡ cond a [] (only (map plain (cond b (t ∷ keep (λ (t : Paired). p t.base) l) (keep (λ (t : Paired). p t.base) l))))
        go true b n = n
        go false true n = ap (λ (m : List Paired). plain t ∷ m) n
        go false false n = n

    -- "Under any values at most one condition for a state, kind and unit holds", and it is the first of the old network's.
    pub first_only : map plain (keep (λ (t : Paired). holds_for (with_conditions N.common (joined_conditions N)) state kind unit E t.base) (guarded_from (length N.common.conditions) N.transitions))
        ≡ only (map plain (keep (λ (t : Paired). holds_for N.common state kind unit E t.base) N.transitions))
    unfolding with_conditions any
    first_only = kept_new N.transitions [] (length C.conditions) (λ j. get_or-append-add C.conditions (joined_conditions N) j (0 ∷ []))
