-- What the functions that make a plan store. Assumes nothing.
use mathlib.Core.Path.{◌≡◌, sym, ap, ◌∙◌}
use mathlib.Core.Bool.{cond}
use mathlib.Core.List.{List, [], ◌∷◌}
use Prim.Native.Nat.{ℕ, suc, ◌+◌, ◌-◌, ◌*◌, ◌%◌}
use native.Mathlib.Numerals.{add-one}
use native.Mathlib.Omega.{arith}
use borrow.Author.Tests.{eq-eqb, ne_eqb}
use lib.Dec.{eqb}
use lib.ListN.{get_or, set, drop}
use lib.Seq.{sets}
use Rattle.sheet.specs.Bytes.{byte}
use Rattle.sheet.specs.Decode.{wide, lead, transition_of, triple_form}
use Rattle.sheet.specs.declared.Header.{Header}
use Rattle.sheet.specs.declared.Transition.{Transition}
use Rattle.sheet.specs.declared.Triple.{Triple}
use Rattle.engine.specs.Plan.{cell_of, key_of}
use Rattle.engine.specs.Prepared.{start_of, text_place, action_place, with_transition, with_triple, head_words}

-- the place of a text that may be nothing
module _ (s : List ℕ) (at b : ℕ) (e : b ≡ byte s at) where
  nothing : b ≡ 0 → 0 ≡ cond (eqb (byte s at) 0) 0 at
  nothing h = rw (eq-eqb (byte s at) 0 (sym e ∙ h))

  something : (b ≡ 0 → ⊥) → at ≡ cond (eqb (byte s at) 0) 0 at
  something h = rw (ne_eqb (byte s at) 0 (λ z. h (e ∙ z)))

module _ (s index : List ℕ) (i at : ℕ) (e : at ≡ start_of index i) where
  module _ (b : ℕ) (f : b ≡ byte s at) where
    pub action_nothing : b ≡ 0 → 0 ≡ action_place s index i
    unfolding action_place
    action_nothing h = nothing s at b f h ∙ ap (λ (m : ℕ). cond (eqb (byte s m) 0) 0 m) e

    pub action_something : (b ≡ 0 → ⊥) → at ≡ action_place s index i
    unfolding action_place
    action_something h = something s at b f h ∙ ap (λ (m : ℕ). cond (eqb (byte s m) 0) 0 m) e

  module _ (k : ℕ) (g : k ≡ lead (wide s)) (b : ℕ) (f : b ≡ byte s ((at + k) % 65536)) where
    there : (at + k) % 65536 ≡ (start_of index i + lead (wide s)) % 65536
    there = λ j. (e j + g j) % 65536

    pub text_nothing : b ≡ 0 → 0 ≡ text_place s index i
    unfolding text_place
    text_nothing h = nothing s ((at + k) % 65536) b f h ∙ ap (λ (m : ℕ). cond (eqb (byte s m) 0) 0 m) there

    pub text_something : (b ≡ 0 → ⊥) → (at + k) % 65536 ≡ text_place s index i
    unfolding text_place
    text_something h = something s ((at + k) % 65536) b f h ∙ ap (λ (m : ℕ). cond (eqb (byte s m) 0) 0 m) there

pub head_words_lem : (p : List ℕ) (h : Header) (paired last units programs monitors : ℕ) → units ≡ h.units → programs ≡ h.programs → monitors ≡ h.monitors → sets p 0 (units ∷ programs ∷ monitors ∷ h.bad ∷ paired ∷ last % 65536 ∷ []) ≡ sets p 0 (head_words h paired last)
head_words_lem p h paired last units programs monitors e f g = λ i. sets p 0 (e i ∷ f i ∷ g i ∷ h.bad ∷ paired ∷ last % 65536 ∷ [])

-- three and four stores in a row
module _ (p : List ℕ) (k x y z : ℕ) where
  pub stores_three : set (set (set p k x) (k + 1) y) (k + 2) z ≡ sets p k (x ∷ y ∷ z ∷ [])
  stores_three =
      let two : k + 2 ≡ suc (suc k) = omega arith in
      λ i. set (set (set p k x) (add-one k i) y) (two i) z

  stores_four : (g : ℕ) → set (set (set (set p k x) (k + 1) y) (k + 2) z) (k + 3) g ≡ sets p k (x ∷ y ∷ z ∷ g ∷ [])
  stores_four g =
      let three : k + 3 ≡ suc (suc (suc k)) = omega arith in
      λ i. set (stores_three i) (three i) g

module _ (s conditions p : List ℕ) (i at : ℕ) where
  module _ (actions : List ℕ) (t : Transition) (e : t ≡ transition_of (drop at s)) (key : ℕ) (ek : key ≡ key_of t.from t.unit t.kind) (gap : ℕ) (eg : gap ≡ get_or p (8 + key) 0 - suc i)
      (x : ℕ) (ex : x ≡ text_place s conditions t.condition) (y : ℕ) (ey : y ≡ action_place s actions t.action) (z : ℕ) (ez : z ≡ t.to) where
    pub transition_words_lem : set (set (set (set (set p (552 + 4 * i) x) (552 + 4 * i + 1) y) (552 + 4 * i + 2) z) (552 + 4 * i + 3) gap) (8 + key) i ≡ with_transition s conditions actions i at p
    unfolding with_transition
    transition_words_lem =
        let behind : gap ≡ get_or p (8 + key_of t.from t.unit t.kind) 0 - suc i = eg ∙ ap (λ (k : ℕ). get_or p (8 + k) 0 - suc i) ek in
        ap (λ (q : List ℕ). set q (8 + key) i) (stores_four p (552 + 4 * i) x y z gap)
        ∙ (λ j. set (sets p (552 + 4 * i) (ex j ∷ ey j ∷ ez j ∷ behind j ∷ [])) (8 + ek j) i)
        ∙ ap (λ (u : Transition). let k = 8 + key_of u.from u.unit u.kind in set (sets p (552 + 4 * i) (text_place s conditions u.condition ∷ action_place s actions u.action ∷ u.to ∷ (get_or p k 0 - suc i) ∷ [])) k i) e

  module _ (t : Triple) (e : t ≡ triple_form.value (drop at s)) (cell : ℕ) (ec : cell ≡ cell_of t.state t.unit) (gap : ℕ) (eg : gap ≡ get_or p (936 + cell) 0 - suc i) (x : ℕ) (ex : x ≡ text_place s conditions t.precondition) where
    pub triple_words_lem : set (set (set (set p (1192 + 3 * i) x) (1192 + 3 * i + 1) i) (1192 + 3 * i + 2) gap) (936 + cell) i ≡ with_triple s conditions i at p
    unfolding with_triple
    triple_words_lem =
        let behind : gap ≡ get_or p (936 + cell_of t.state t.unit) 0 - suc i = eg ∙ ap (λ (k : ℕ). get_or p (936 + k) 0 - suc i) ec in
        ap (λ (q : List ℕ). set q (936 + cell) i) (stores_three p (1192 + 3 * i) x i gap)
        ∙ (λ j. set (sets p (1192 + 3 * i) (ex j ∷ i ∷ behind j ∷ [])) (936 + ec j) i)
        ∙ ap (λ (u : Triple). let k = 936 + cell_of u.state u.unit in set (sets p (1192 + 3 * i) (text_place s conditions u.precondition ∷ i ∷ (get_or p k 0 - suc i) ∷ [])) k i) e
