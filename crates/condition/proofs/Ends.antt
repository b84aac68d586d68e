-- Plus and minus stop at the ends of the signed range; raised values, by which the code works it out. Assumes nothing.
use Rattle.std.proofs.Common.{◌≡◌, ℕ, zero, suc, ◌+◌, ◌-◌, ◌%◌, ◌^◌, ◌<◌, ◌≤◌, Bool, true, false, cond, not, T, ltb, ℤ, pos, negsuc, ◌+ℤ◌, ◌-ℤ◌, neg_ℤ, ◌≤ℤ◌, ◌<ℤ◌, sym, refl, ap, ◌∙◌, subst, ap₂, arith, le→leb, lt→ltb, leb→le, ltb-false, ltb-true, le-ltb, lt-ltb}
use native.Mathlib.Nat.{add-mod}
use lib.IntN.{sub_ℕ}
use lib.Signed.{lt_z, lt_z_yes, lt_z_no, le_z_yes, clash_ℤ, ≤ℤ_refl}
use Rattle.condition.specs.Word.{signed, unsigned, low_end, high_end, clamp, difference, plus_word, minus_word, Between, Stops, PlusStops, MinusStops}

-- The difference of two natural numbers as a whole number.
sub_pos : (a b : ℕ) → b ≤ a → sub_ℕ a b ≡ pos (a - b)
sub_pos a b h = rw (le-ltb a b h) refl

sub_neg : (a b : ℕ) → a < b → sub_ℕ a b ≡ negsuc (b - suc a)
sub_neg a b h = rw (lt-ltb a b h) refl

pub sub_same : (a b c d : ℕ) → a + d ≡ c + b → sub_ℕ a b ≡ sub_ℕ c d
sub_same a b c d e = go (ltb a b) refl
  where
    go : (t : Bool) → ltb a b ≡ t → sub_ℕ a b ≡ sub_ℕ c d
    go true t = let h = ltb-true a b t in sub_neg a b h ∙ ap negsuc (omega arith) ∙ sym (sub_neg c d (omega arith))
    go false t = let h = ltb-false a b t in sub_pos a b h ∙ ap pos (omega arith) ∙ sym (sub_pos c d (omega arith))

pub sub_sum : (a b c d : ℕ) → sub_ℕ a b +ℤ sub_ℕ c d ≡ sub_ℕ (a + c) (b + d)
sub_sum a b c d = go (ltb a b) refl (ltb c d) refl
  where
    go : (t : Bool) → ltb a b ≡ t → (u : Bool) → ltb c d ≡ u → sub_ℕ a b +ℤ sub_ℕ c d ≡ sub_ℕ (a + c) (b + d)
    go true t true u =
        let h = ltb-true a b t in
        let i = ltb-true c d u in
        ap₂ (λ (x y : ℤ). x +ℤ y) (sub_neg a b h) (sub_neg c d i) ∙ ap negsuc (omega arith) ∙ sym (sub_neg (a + c) (b + d) (omega arith))
    go true t false u =
        let h = ltb-true a b t in
        let i = ltb-false c d u in
        ap₂ (λ (x y : ℤ). x +ℤ y) (sub_neg a b h) (sub_pos c d i) ∙ sub_same (c - d) (suc (b - suc a)) (a + c) (b + d) (omega arith)
    go false t true u =
        let h = ltb-false a b t in
        let i = ltb-true c d u in
        ap₂ (λ (x y : ℤ). x +ℤ y) (sub_pos a b h) (sub_neg c d i) ∙ sub_same (a - b) (suc (d - suc c)) (a + c) (b + d) (omega arith)
    go false t false u =
        let h = ltb-false a b t in
        let i = ltb-false c d u in
        ap₂ (λ (x y : ℤ). x +ℤ y) (sub_pos a b h) (sub_pos c d i) ∙ ap pos (omega arith) ∙ sym (sub_pos (a + c) (b + d) (omega arith))

neg_pos : (n : ℕ) → neg_ℤ (pos n) ≡ sub_ℕ zero n
neg_pos zero = refl
neg_pos (suc n) = sym (sub_neg zero (suc n) (omega arith) ∙ ap negsuc (omega arith))

pub neg_sub : (a b : ℕ) → neg_ℤ (sub_ℕ a b) ≡ sub_ℕ b a
neg_sub a b = go (ltb a b) refl
  where
    go : (t : Bool) → ltb a b ≡ t → neg_ℤ (sub_ℕ a b) ≡ sub_ℕ b a
    go true t = let h = ltb-true a b t in ap neg_ℤ (sub_neg a b h) ∙ ap pos (omega arith) ∙ sym (sub_pos b a (omega arith))
    go false t = let h = ltb-false a b t in ap neg_ℤ (sub_pos a b h) ∙ neg_pos (a - b) ∙ sub_same zero (a - b) b a (omega arith)

-- A word's number is 2^31 less than its raised form; so the sum of two is 2^32 less than theirs.
pub signed_raised : (a : ℕ) → a < 2 ^ 32 → signed a ≡ sub_ℕ ((a + 2 ^ 31) % 2 ^ 32) (2 ^ 31)
unfolding signed
signed_raised a x = go (ltb a (2 ^ 31)) refl
  where
    go : (t : Bool) → ltb a (2 ^ 31) ≡ t → cond (ltb a (2 ^ 31)) (pos a) (negsuc (2 ^ 32 - 1 - a)) ≡ sub_ℕ ((a + 2 ^ 31) % 2 ^ 32) (2 ^ 31)
    go true t = let h = ltb-true a (2 ^ 31) t in rw t (sym (sub_pos ((a + 2 ^ 31) % 2 ^ 32) (2 ^ 31) (omega arith) ∙ ap pos (omega arith)))
    go false t = let h = ltb-false a (2 ^ 31) t in rw t (sym (sub_neg ((a + 2 ^ 31) % 2 ^ 32) (2 ^ 31) (omega arith) ∙ ap negsuc (omega arith)))

pub plus_raised : (a b : ℕ) → a < 2 ^ 32 → b < 2 ^ 32 → signed a +ℤ signed b ≡ sub_ℕ ((a + 2 ^ 31) % 2 ^ 32 + (b + 2 ^ 31) % 2 ^ 32) (2 ^ 32)
plus_raised a b x y =
    ap₂ (λ (p q : ℤ). p +ℤ q) (signed_raised a x) (signed_raised b y) ∙ sub_sum ((a + 2 ^ 31) % 2 ^ 32) (2 ^ 31) ((b + 2 ^ 31) % 2 ^ 32) (2 ^ 31)

pub minus_raised : (a b : ℕ) → a < 2 ^ 32 → b < 2 ^ 32 → signed a -ℤ signed b ≡ sub_ℕ (2 ^ 32 + (a + 2 ^ 31) % 2 ^ 32 - (b + 2 ^ 31) % 2 ^ 32) (2 ^ 32)
minus_raised a b x y =
    ap₂ (λ (p q : ℤ). p +ℤ neg_ℤ q) (signed_raised a x) (signed_raised b y) ∙ ap (λ (q : ℤ). sub_ℕ ((a + 2 ^ 31) % 2 ^ 32) (2 ^ 31) +ℤ q) (neg_sub ((b + 2 ^ 31) % 2 ^ 32) (2 ^ 31)) ∙ sub_sum ((a + 2 ^ 31) % 2 ^ 32) (2 ^ 31) (2 ^ 31) ((b + 2 ^ 31) % 2 ^ 32) ∙ sub_same ((a + 2 ^ 31) % 2 ^ 32 + 2 ^ 31) (2 ^ 31 + (b + 2 ^ 31) % 2 ^ 32) (2 ^ 32 + (a + 2 ^ 31) % 2 ^ 32 - (b + 2 ^ 31) % 2 ^ 32) (2 ^ 32) (omega arith)

-- What the clamp gives, by where the number is.
not_below : (a b : ℤ) → a ≤ℤ b → lt_z b a ≡ false
not_below a b h = go (lt_z b a) refl
  where
    go : (t : Bool) → lt_z b a ≡ t → t ≡ false
    go true e = clash_ℤ (lt_z_yes (subst T (sym e) tt)) h
    go false e = refl

below : (a b : ℤ) → a <ℤ b → lt_z a b ≡ true
below a b h = go (lt_z a b) refl
  where
    go : (t : Bool) → lt_z a b ≡ t → t ≡ true
    go true e = refl
    go false e = absurd (subst T e h.lt)

high_not_low : (z : ℤ) → high_end <ℤ z → lt_z z low_end ≡ false
unfolding low_end high_end
high_not_low (pos n) h = refl
high_not_low (negsuc n) h = absurd h.lt

clamp_between : (z : ℤ) → Between z → clamp z ≡ z
unfolding clamp
clamp_between z (l, h) = rw (not_below low_end z l, not_below z high_end h) refl

clamp_low : (z : ℤ) → z <ℤ low_end → clamp z ≡ low_end
unfolding clamp
clamp_low z l = rw (below z low_end l) refl

clamp_high : (z : ℤ) → high_end <ℤ z → clamp z ≡ high_end
unfolding clamp
clamp_high z h = rw (high_not_low z h, below high_end z h) refl

low_between : Between low_end
unfolding low_end high_end
low_between = (≤ℤ_refl low_end, le_z_yes tt)

high_between : Between high_end
unfolding low_end high_end
high_between = (le_z_yes tt, ≤ℤ_refl high_end)

between_clamp : (z : ℤ) → Between (clamp z)
between_clamp z = go (lt_z z low_end) refl (lt_z high_end z) refl
  where
    go : (t : Bool) → lt_z z low_end ≡ t → (u : Bool) → lt_z high_end z ≡ u → Between (clamp z)
    go true d u e = subst Between (sym (clamp_low z (lt_z_yes (subst T (sym d) tt)))) low_between
    go false d true e = subst Between (sym (clamp_high z (lt_z_yes (subst T (sym e) tt)))) high_between
    go false d false e = let b : Between z = (lt_z_no (subst (λ (t : Bool). T (not t)) (sym d) tt), lt_z_no (subst (λ (t : Bool). T (not t)) (sym e) tt)) in subst Between (sym (clamp_between z b)) b

signed_unsigned : (z : ℤ) → Between z → signed (unsigned z) ≡ z
unfolding signed unsigned low_end high_end
signed_unsigned (pos n) (l, h) = let i = leb→le n 2147483647 h.le in rw (lt-ltb n (2 ^ 31) (omega arith)) refl
signed_unsigned (negsuc n) (l, h) =
    let i = leb→le n 2147483647 l.le in
    rw (le-ltb (2 ^ 32 - 1 - n) (2 ^ 31) (omega arith)) (ap negsuc (omega arith))

-- What is 2^32 below n, past either end and between them.
pub clamped_low : (n : ℕ) → n < 2 ^ 31 → unsigned (clamp (sub_ℕ n (2 ^ 32))) ≡ 2 ^ 31
unfolding unsigned low_end
clamped_low n h = ap unsigned (clamp_low (sub_ℕ n (2 ^ 32)) (rw (sub_neg n (2 ^ 32) (omega arith)) (lt_z_yes (lt→ltb 2147483647 (2 ^ 32 - suc n) (omega arith)))))

pub clamped_high : (n : ℕ) → 2 ^ 32 + 2 ^ 31 ≤ n → unsigned (clamp (sub_ℕ n (2 ^ 32))) ≡ 2 ^ 31 - 1
unfolding unsigned high_end
clamped_high n h = ap unsigned (clamp_high (sub_ℕ n (2 ^ 32)) (rw (sub_pos n (2 ^ 32) (omega arith)) (lt_z_yes (lt→ltb 2147483647 (n - 2 ^ 32) (omega arith)))))

raised_between : (n : ℕ) → 2 ^ 31 ≤ n → n < 2 ^ 32 + 2 ^ 31 → Between (sub_ℕ n (2 ^ 32))
unfolding low_end high_end
raised_between n h i = go (ltb n (2 ^ 32)) refl
  where
    go : (t : Bool) → ltb n (2 ^ 32) ≡ t → Between (sub_ℕ n (2 ^ 32))
    go true t = let j = ltb-true n (2 ^ 32) t in rw (sub_neg n (2 ^ 32) j) (le_z_yes (le→leb (2 ^ 32 - suc n) 2147483647 (omega arith)), le_z_yes tt)
    go false t = let j = ltb-false n (2 ^ 32) t in rw (sub_pos n (2 ^ 32) j) (le_z_yes tt, le_z_yes (le→leb (n - 2 ^ 32) 2147483647 (omega arith)))

word_between : (n : ℕ) → Between (sub_ℕ n (2 ^ 32)) → unsigned (sub_ℕ n (2 ^ 32)) ≡ n % 2 ^ 32
unfolding unsigned low_end high_end
word_between n b = go (ltb n (2 ^ 32)) refl
  where
    go : (t : Bool) → ltb n (2 ^ 32) ≡ t → unsigned (sub_ℕ n (2 ^ 32)) ≡ n % 2 ^ 32
    go true t =
        let j = ltb-true n (2 ^ 32) t in
        let l = leb→le (2 ^ 32 - suc n) 2147483647 (subst Between (sub_neg n (2 ^ 32) j) b).0.le in
        rw (sub_neg n (2 ^ 32) j) (omega arith)
    go false t =
        let j = ltb-false n (2 ^ 32) t in
        let h = leb→le (n - 2 ^ 32) 2147483647 (subst Between (sub_pos n (2 ^ 32) j) b).1.le in
        rw (sub_pos n (2 ^ 32) j) (omega arith)

pub clamped_between : (n : ℕ) → 2 ^ 31 ≤ n → n < 2 ^ 32 + 2 ^ 31 → unsigned (clamp (sub_ℕ n (2 ^ 32))) ≡ n % 2 ^ 32
clamped_between n h i = let b = raised_between n h i in ap unsigned (clamp_between (sub_ℕ n (2 ^ 32)) b) ∙ word_between n b

-- The claims about plus and minus.
stops : (z : ℤ) (m n : ℕ) → z ≡ sub_ℕ n (2 ^ 32) → n % 2 ^ 32 ≡ m → Stops (unsigned (clamp z)) z m
stops z m n e f =
    record {
      between = subst Between (sym reads) (between_clamp z);
      exact = λ b. reads ∙ clamp_between z b;
      as_before = λ b. ap unsigned (clamp_between z b ∙ e) ∙ word_between n (subst Between e b) ∙ f;
      past_high = λ h. reads ∙ clamp_high z h;
      past_low = λ l. reads ∙ clamp_low z l;
    }
  where
    reads : signed (unsigned (clamp z)) ≡ clamp z
    reads = signed_unsigned (clamp z) (between_clamp z)

pub plus_stops : PlusStops
unfolding plus_word
plus_stops a b x y = stops _ _ ((a + 2 ^ 31) % 2 ^ 32 + (b + 2 ^ 31) % 2 ^ 32) (plus_raised a b x y) (sym (add-mod (a + 2 ^ 31) (b + 2 ^ 31) (2 ^ 32)) ∙ omega arith)

raised_high : (a : ℕ) → a < 2 ^ 31 → (a + 2 ^ 31) % 2 ^ 32 ≡ a + 2 ^ 31
raised_high a h = omega arith

raised_low : (a : ℕ) → 2 ^ 31 ≤ a → a < 2 ^ 32 → (a + 2 ^ 31) % 2 ^ 32 ≡ a - 2 ^ 31
raised_low a h i = omega arith

-- raising both leaves their difference
difference_raised : (a b : ℕ) → a < 2 ^ 32 → b < 2 ^ 32 → difference ((a + 2 ^ 31) % 2 ^ 32) ((b + 2 ^ 31) % 2 ^ 32) ≡ difference a b
unfolding difference
difference_raised a b x y = go (ltb a (2 ^ 31)) refl (ltb b (2 ^ 31)) refl
  where
    go : (t : Bool) → ltb a (2 ^ 31) ≡ t → (u : Bool) → ltb b (2 ^ 31) ≡ u → difference ((a + 2 ^ 31) % 2 ^ 32) ((b + 2 ^ 31) % 2 ^ 32) ≡ difference a b
    go true t true u = rw (raised_high a (ltb-true a (2 ^ 31) t), raised_high b (ltb-true b (2 ^ 31) u)) (omega arith)
    go true t false u = let j = ltb-false b (2 ^ 31) u in rw (raised_high a (ltb-true a (2 ^ 31) t), raised_low b j y) (omega arith)
    go false t true u = let i = ltb-false a (2 ^ 31) t in let j = ltb-true b (2 ^ 31) u in rw (raised_low a i x, raised_high b j) (omega arith)
    go false t false u = let i = ltb-false a (2 ^ 31) t in let j = ltb-false b (2 ^ 31) u in rw (raised_low a i x, raised_low b j y) (omega arith)

pub minus_stops : MinusStops
unfolding minus_word difference
minus_stops a b x y = stops _ _ (2 ^ 32 + (a + 2 ^ 31) % 2 ^ 32 - (b + 2 ^ 31) % 2 ^ 32) (minus_raised a b x y) (difference_raised a b x y)
