-- What stands at a place after stores, and after records are put into a list from the last to the first. Assumes nothing.
use mathlib.Core.Path.{◌≡◌, refl, ap, ◌∙◌}
use mathlib.Core.List.{List, [], ◌∷◌}
use Prim.Native.Nat.{ℕ, zero, suc, ◌+◌, ◌≤◌, ◌<◌}
use native.Mathlib.Omega.{arith}
use lib.ListN.{length, get_or, set, drop, replicate, length-set, get_or-replicate}
use lib.Seq.{sets, get_or-set_same, get_or-set_other, length-sets}
use Rattle.engine.specs.Prepared.{linked}

-- a run of stores leaves what stands outside it, and is there
pub sets_other : (ws p : List ℕ) (a k : ℕ) → ((j : ℕ) → j < length ws → k ≡ a + j → ⊥) → get_or (sets p a ws) k 0 ≡ get_or p k 0
sets_other [] p a k away = refl
sets_other (x ∷ ws) p a k away =
    sets_other ws (set p a x) (suc a) k (λ j h e. away (suc j) (omega arith) (omega arith)) ∙ get_or-set_other p a k x 0 (λ e. away 0 (omega arith) (omega arith))

pub sets_own : (ws p : List ℕ) (a k j : ℕ) → k ≡ a + j → j < length ws → a + length ws ≤ length p → get_or (sets p a ws) k 0 ≡ get_or ws j 0
sets_own [] p a k j e h room = absurd (omega arith)
sets_own (x ∷ ws) p a k zero e h room =
    sets_other ws (set p a x) (suc a) k (λ j h' e'. omega arith) ∙ ap (λ (n : ℕ). get_or (set p a x) n 0) (omega arith) ∙ get_or-set_same p a x 0 (omega arith)
sets_own (x ∷ ws) p a k (suc j) e h room = sets_own ws (set p a x) (suc a) k j (omega arith) (omega arith) (omega (arith, length-set p a x))

-- words from a place on, and one more at another place
module _ (p : List ℕ) (a : ℕ) (ws : List ℕ) (h r : ℕ) where
  pub entry_length : length (set (sets p a ws) h r) ≡ length p
  entry_length = length-set (sets p a ws) h r ∙ length-sets p a ws

  pub entry_head : h < length p → get_or (set (sets p a ws) h r) h 0 ≡ r
  entry_head room = get_or-set_same (sets p a ws) h r 0 (omega (arith, length-sets p a ws))

  module _ (k : ℕ) (away : k ≡ h → ⊥) where
    pub entry_word : (j : ℕ) → k ≡ a + j → j < length ws → a + length ws ≤ length p → get_or (set (sets p a ws) h r) k 0 ≡ get_or ws j 0
    entry_word j e b room = get_or-set_other (sets p a ws) h k r 0 away ∙ sets_own ws p a k j e b room

    pub entry_other : ((j : ℕ) → j < length ws → k ≡ a + j → ⊥) → get_or (set (sets p a ws) h r) k 0 ≡ get_or p k 0
    entry_other out = get_or-set_other (sets p a ws) h k r 0 away ∙ sets_other ws p a k out

-- words at the front of a constant list
pub behind_front : (n d : ℕ) (ws : List ℕ) (k : ℕ) → length ws ≤ k → k < n → get_or (sets (replicate n d) 0 ws) k 0 ≡ d
behind_front n d ws k h b = sets_other ws (replicate n d) 0 k (λ j l e. omega arith) ∙ get_or-replicate n k d 0 b

module _ {A : Type 0} (f : ℕ → A → List ℕ → List ℕ) where
  pub linked_length : ((i : ℕ) (x : A) (p : List ℕ) → length (f i x p) ≡ length p) → (l : List A) (i : ℕ) (p : List ℕ) → length (linked f i l p) ≡ length p
  unfolding linked
  linked_length same [] i p = refl
  linked_length same (x ∷ l) i p = same i x (linked f (suc i) l p) ∙ linked_length same l (suc i) p

  module _ (k : ℕ) where
    -- a place that no record alters
    pub linked_other : (most : ℕ) → ((i : ℕ) (x : A) (p : List ℕ) → i < most → get_or (f i x p) k 0 ≡ get_or p k 0) → (l : List A) (i : ℕ) (p : List ℕ) → i + length l ≤ most → get_or (linked f i l p) k 0 ≡ get_or p k 0
    unfolding linked
    linked_other most same [] i p h = refl
    linked_other most same (x ∷ l) i p h = same i x (linked f (suc i) l p) (omega arith) ∙ linked_other most same l (suc i) p (omega arith)

    -- a place that no record before the one of number j alters
    pub linked_at : (j : ℕ) → ((i : ℕ) (x : A) (p : List ℕ) → i < j → get_or (f i x p) k 0 ≡ get_or p k 0) → (d : A) (l : List A) (i t : ℕ) (p : List ℕ) → j ≡ i + t → t < length l
        → get_or (linked f i l p) k 0 ≡ get_or (f j (get_or l t d) (linked f (suc j) (drop (suc t) l) p)) k 0
    unfolding linked
    linked_at j same d [] i t p e h = absurd (omega arith)
    linked_at j same d (x ∷ l) i zero p e h =
        let here : i ≡ j = omega arith in
        ap (λ (m : ℕ). get_or (f m x (linked f (suc m) l p)) k 0) here
    linked_at j same d (x ∷ l) i (suc t) p e h = same i x (linked f (suc i) l p) (omega arith) ∙ linked_at j same d l (suc i) t p (omega arith) (omega arith)
