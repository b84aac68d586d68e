-- What a joined condition parses to, and when it holds. Assumes nothing.
use mathlib.Core.Path.{◌≡◌, refl, sym, ap₂}
use mathlib.Core.Logic.{inl, inr}
use mathlib.Core.Bool.{Bool, true, false, not, cond, ◌&&◌}
use mathlib.Core.Option.{some}
use mathlib.Core.List.{List, [], ◌∷◌, ◌++◌}
use Prim.Native.Nat.{ℕ}
use Rattle.condition.specs.declared.Lent.{Lent}
use Rattle.condition.specs.Tree.{Variable, Condition, negation, both, condition_bytes, condition_names}
use Rattle.condition.specs.Parse.{unlent, parse_condition}
use Rattle.condition.specs.Meaning.{Environment, holds}
use Rattle.condition.specs.Answer.{sized, condition_which}
use Rattle.condition.proofs.Parsing.{condition_whole, parse_lent, parse_bytes}
use Rattle.sheet.specs.declared.Transition.{Transition}
use Rattle.sheet.specs.Parts.{Common}
use Rattle.sheet.specs.Reading.{lent_in, condition_in, formed}
use Rattle.sheet.proofs.Accepted.{condition_formed}
use Rattle.step.specs.Lists.{Among, any}
use Rattle.step.specs.Meets.{meets}
use Rattle.step.proofs.OnEvents.Bridge.{parses}
use Rattle.translation.specs.Card.{is_of, joined_text}

-- Some bytes are those of a tree that names what is lent.
pub record Says (L : Lent) (t : List ℕ) (c : Condition) : Type 0 where
  pub bytes : t ≡ condition_bytes c
  pub lent : condition_names c (unlent L) ≡ false

pub says_parses : {L : Lent} {t : List ℕ} {c : Condition} → Says L t c → parse_condition L t ≡ some c
says_parses {L} {t} {c} g = rw g.bytes (parse_bytes L c g.lent)

-- `and`, `not` and one, then another
says_joined : {L : Lent} {t u : List ℕ} {c d : Condition} → Says L t c → Says L u d → Says L (2 ∷ 1 ∷ (t ++ u)) (both (negation c) d)
unfolding condition_bytes condition_names
says_joined g h = record { bytes = ap₂ (λ (x y : List ℕ). 2 ∷ 1 ∷ (x ++ y)) g.bytes h.bytes; lent = rw g.lent h.lent }

module _ (C : Common) (f : formed C ≡ true) where
  -- a condition by its number
  pub said : (i : ℕ) → (c : Condition) × Says (lent_in C) (condition_in C i) c
  unfolding condition_which
  said i =
      let (c, z, h) = parses (sized (condition_in C i)) (parse_condition (lent_in C) (condition_in C i)) (condition_formed C f i) in
      (c, record { bytes = condition_whole (lent_in C) (condition_in C i) h; lent = parse_lent (lent_in C) (condition_in C i) h })

  said_meets : (i : ℕ) (c : Condition) → Says (lent_in C) (condition_in C i) c → (E : Environment) → meets C i E ≡ holds c E
  unfolding meets
  said_meets i c g E = rw (says_parses g)

  -- a joined condition: a tree that holds where the own condition does and none of the earlier ones of its state, kind and unit
  pub record Joins (t : Transition) (l : List Transition) : Type 0 where
    pub tree : Condition
    pub says : Says (lent_in C) (joined_text C t l) tree
    pub names : (p : Variable → Bool) → ((u : Transition) → Among u (t ∷ l) → (c : Condition) → Says (lent_in C) (condition_in C u.condition) c → condition_names c p ≡ false) → condition_names tree p ≡ false
    pub means : (E : Environment) → holds tree E ≡ (not (any (λ u. is_of t.from t.kind t.unit u && meets C u.condition E) l) && meets C t.condition E)

  pub joins : (t : Transition) (l : List Transition) → Joins t l
  unfolding joined_text any holds condition_names
  joins t [] = let (c, g) = said t.condition in record { tree = c; says = g; names = λ p q. q t (inl refl) c g; means = λ E. sym (said_meets t.condition c g E) }
  joins t (u ∷ l) = go (is_of t.from t.kind t.unit u) refl (joins t l)
    where
      go : (b : Bool) → is_of t.from t.kind t.unit u ≡ b → Joins t l → Joins t (u ∷ l)
      go true e j =
          let (c, g) = said u.condition in
          record {
            tree = both (negation c) j.tree;
            says = rw e (says_joined g j.says);
            names = λ p q. rw (q u (inr (inl refl)) c g, j.names p (λ v m. q v (skip v m)));
            means = λ E. rw (e, j.means E, said_meets u.condition c g E) (deny (holds c E) _ _);
          }
        where
          skip : (v : Transition) → Among v (t ∷ l) → Among v (t ∷ u ∷ l)
          skip v (inl x) = inl x
          skip v (inr x) = inr (inr x)

          deny : (a r m : Bool) → (not a && (not r && m)) ≡ (not (cond a true r) && m)
          deny true r m = refl
          deny false r m = refl
      go false e j = record { tree = j.tree; says = rw e j.says; names = λ p q. j.names p (λ v m. q v (over v m)); means = λ E. rw e (j.means E) }
        where
          over : (v : Transition) → Among v (t ∷ l) → Among v (t ∷ u ∷ l)
          over v (inl x) = inl x
          over v (inr x) = inr (inr x)
