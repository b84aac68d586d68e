-- The loops that put a state's calls and checkers into the engine's row and take them out of it. Assumes nothing.
use mathlib.Core.Path.{◌≡◌, refl, sym, ap, ap₂, subst, ◌∙◌}
use mathlib.Core.Bool.{Bool, true, false, cond}
use mathlib.Core.List.{List, [], ◌∷◌, ◌++◌, map, append-nil, append_assoc}
use Prim.Native.Nat.{ℕ, zero, suc, ◌+◌, ◌*◌, ◌≤◌, ◌<◌}
use native.Mathlib.Numerals.{add-one}
use native.Mathlib.Omega.{arith}
use borrow.Author.Tests.{lt-ltb}
use lib.ListN.{length, get_or, set, take, drop, replicate, length-map, length-take, length-append, drop_of_length-le, get_or-map}
use lib.Seq.{sets, take-suc, drop-cons, get_or-take}
use Rattle.sheet.specs.Table.{every, fit}
use Rattle.sheet.proofs.Tables.{and_both, every_append}
use Rattle.step.specs.declared.Call.{Call}
use Rattle.step.specs.Padding.{zero_call}
use Rattle.step.proofs.OnLists.Filling.{Filling, filling_start, filling_next, filling_end}
use Rattle.step.proofs.OnLists.Rooms.{sets_more, four, four_of_eight}
use Rattle.engine.specs.declared.Running.{Running}
use Rattle.engine.specs.declared.pack.Arms.{Arms}
use Rattle.engine.specs.Packed.{words_of, put_at, call_in, arms_in, call_at, arms_at}
use Rattle.engine.specs.Walk.{words, entries}
use Rattle.engine.proofs.InWords.Entries.{entries_more}
use Rattle.engine.proofs.Packed.{put_length, put_more, call_words_lem, arms_words, out_more}
use Rattle.network.specs.declared.Checker.{Checker}
use Rattle.network.specs.Network.{bound_to}
use Rattle.network.specs.Padded.{zero_checker}
use Rattle.network.specs.Grouped.{checker}
use Rattle.network.specs.Packed.{front, own_of, arms_of, words_in, checkers_for, checkers_in, unpacked}
use Rattle.std.specs.List.{prefix_len}
use Rattle.std.proofs.lemmas.List.Folds.{length-prefix_len}
use Rattle.network.proofs.Offers.Packed.{small}

-- past the first elements there are none of them
none_left : {A : Type 0} (l : List A) (n i : ℕ) → n ≤ i → drop i (take n l) ≡ []
none_left l n i h = let far : length (take n l) ≤ i = omega (arith, length-take n l) in drop_of_length-le (take n l) far

-- The first elements that pass a test, by the library's word.
front_prefix : {A : Type 0} (p : A → Bool) (n : ℕ) (l : List A) → front p n l ≡ take (prefix_len p (take n l)) l
unfolding front
front_prefix p zero l = refl
front_prefix p (suc n) [] = refl
front_prefix {A} p (suc n) (x ∷ l) = go (p x) (front_prefix p n l)
  where
    go : (b : Bool) → front p n l ≡ take (prefix_len p (take n l)) l → cond b (x ∷ front p n l) [] ≡ take (cond b (1 + prefix_len p (take n l)) 0) (x ∷ l)
    go true e = ap (λ (m : List A). x ∷ m) e ∙ ap (λ (k : ℕ). take k (x ∷ l)) {x = suc (prefix_len p (take n l))} {y = 1 + prefix_len p (take n l)} (omega arith)
    go false e = refl

front_few : {A : Type 0} (p : A → Bool) (k : ℕ) (l : List A) → length (front p k l) ≤ k
unfolding front
front_few p zero l = omega arith
front_few p (suc k) [] = omega arith
front_few p (suc k) (x ∷ l) = go (p x) (front_few p k l)
  where
    go : (b : Bool) → length (front p k l) ≤ k → length (cond b (x ∷ front p k l) []) ≤ suc k
    go true h = omega arith
    go false h = omega arith

-- The templates of the checkers that a row begins with, `count` of them.
module _ (number : ℕ) (l : List Checker) (count : ℕ) (e : count ≡ length (take (prefix_len (bound_to number) (take 4 l)) (take 4 l))) where
  own_there : own_of number l ≡ map (λ (h : Checker). h.template) (take count l)
  own_there =
      let k = prefix_len (bound_to number) (take 4 l) in
      let few : k ≡ count = sym (e ∙ length-prefix_len (bound_to number) (take 4 l)) in
      ap (map (λ (h : Checker). h.template)) (front_prefix (bound_to number) 4 l ∙ ap (λ (n : ℕ). take n l) few)

  pub own_count : count ≡ length (own_of number l)
  own_count =
      let k = prefix_len (bound_to number) (take 4 l) in
      let few : k ≡ count = sym (e ∙ length-prefix_len (bound_to number) (take 4 l)) in
      let low : length (take k (take 4 l)) ≡ count = sym e in
      omega (arith, ap length own_there, length-map (take count l) (λ (h : Checker). h.template), length-take count l, length-take k (take 4 l), length-take 4 l)

  pub own_few : count ≤ 4
  own_few = omega (arith, own_count, length-map (front (bound_to number) 4 l) (λ (h : Checker). h.template), front_few (bound_to number) 4 l)

  pub own_within : count ≤ length l
  own_within = omega (arith, own_count, ap length own_there, length-map (take count l) (λ (h : Checker). h.template), length-take count l)

  -- The loop that copies them: i are copied.
  abbrev pub Copying : List ℕ → ℕ → Type 0
  Copying numbers i = Filling 4 0 (own_of number l) numbers i (drop i (own_of number l))

  pub copying_next : (numbers : List ℕ) (i : ℕ) → Copying numbers i → i < count → (d : Checker) → Copying (set numbers i (get_or l i d).template) (i + 1)
  copying_next numbers i g h d =
      let own = own_of number l in
      let one : get_or own i d.template ≡ (get_or l i d).template = ap (λ (m : List ℕ). get_or m i d.template) own_there ∙ get_or-map (λ (h : Checker). h.template) (take count l) i d ∙ ap (λ (h : Checker). h.template) (get_or-take count l i d h) in
      subst (λ (x : ℕ). Filling 4 0 own (set numbers i x) (i + 1) (drop (i + 1) own)) one (filling_next 4 0 own numbers i own i d.template g (omega (arith, own_count)))

  pub copying_end : (numbers : List ℕ) (i : ℕ) → Copying numbers i → count ≤ i → record { count = count; numbers = numbers } ≡ arms_of (own_of number l)
  copying_end numbers i g h =
      let own = own_of number l in
      let all : numbers ≡ fit 4 0 own = filling_end 4 0 own numbers i (drop i own) g (drop_of_length-le own (omega (arith, own_count))) in
      λ j. record { count = own_count j; numbers = all j }

-- as many are bound as stand there
pub arms_within : (number : ℕ) (l : List Checker) (a : Arms) → a ≡ arms_of (own_of number l) → (a.count ≤ length l) × (a.count ≤ 4)
arms_within number l a e =
    let k = prefix_len (bound_to number) (take 4 l) in
    let c = length (take k (take 4 l)) in
    let same : a.count ≡ c = ap (λ (x : Arms). x.count) e ∙ sym (own_count number l c refl) in
    (rw same (own_within number l c refl), rw same (own_few number l c refl))

-- The loop that packs: i calls are in the row, and the checkers of the others are left.
pub record Packing (calls : List Call) (l : List Checker) (opened : ℕ) (row : List ℕ) (i : ℕ) (rest : List Checker) : Type 0 where
  pub here : entries i row ++ words_in (drop i (take opened calls)) rest ≡ words_in (take opened calls) l
  pub passed : every small (take i calls) ≡ true
  pub long : length row ≡ 256
  pub low : i ≤ opened

module _ (calls : List Call) (l : List Checker) (opened : ℕ) (row : List ℕ) where
  pub packing_start : length row ≡ 256 → Packing calls l opened row 0 l
  unfolding entries every
  packing_start h = record { here = refl; passed = refl; long = h; low = omega arith }

  module _ (i : ℕ) (rest : List Checker) (g : Packing calls l opened row i rest) where
    pub packing_end : opened ≤ i → (entries opened row ≡ words_in (take opened calls) l) × (every small (take opened calls) ≡ true) × (length row ≡ 256)
    unfolding words_in
    packing_end h =
        let none : drop i (take opened calls) ≡ [] = none_left calls opened i h in
        let all : entries i row ≡ words_in (take opened calls) l = sym (append-nil (entries i row)) ∙ (rw none at g.here) in
        let same : i ≡ opened = omega (arith, g.low) in
        (subst (λ (k : ℕ). entries k row ≡ words_in (take opened calls) l) same all, subst (λ (k : ℕ). every small (take k calls) ≡ true) same g.passed, g.long)

    pub packing_next : i < opened → opened ≤ 16 → length calls ≡ 16 → (d : Call) (arms : Arms) → arms ≡ arms_of (own_of (get_or calls i d).number rest) → (after : List ℕ)
        → (after ≡ put_at row i (get_or calls i d) arms) × ((get_or calls i d).number < 65536) × ((get_or calls i d).unit < 256) × (length (get_or calls i d).kept ≡ 8) × (length arms.numbers ≡ 4)
        → Packing calls l opened after (i + 1) (drop arms.count rest)
    unfolding every words_in
    packing_next h few many d arms e after (ea, n, u, eight, four) =
        let c = get_or calls i d in
        let own = own_of c.number rest in
        let one : take (i + 1) calls ≡ take i calls ++ c ∷ [] = rw (add-one i) (take-suc calls i d (omega arith)) in
        let next : drop i (take opened calls) ≡ c ∷ drop (i + 1) (take opened calls)
        = rw (add-one i) (drop-cons (take opened calls) i d (omega (arith, length-take opened calls)) ∙ ap (λ (x : Call). x ∷ drop (suc i) (take opened calls)) (get_or-take opened calls i d h)) in
        let put : entries (i + 1) after ≡ entries i row ++ words_of c (arms_of own) ∷ [] = ap (entries (i + 1)) ea ∙ put_more row i c arms (omega arith) g.long eight four ∙ ap (λ (x : Arms). entries i row ++ words_of c x ∷ []) e in
        let left = words_in (drop (i + 1) (take opened calls)) in
        record {
          here = ap₂ (λ (ws : List (List ℕ)) (a : Arms). ws ++ left (drop a.count rest)) put e ∙ append_assoc (entries i row) (words_of c (arms_of own) ∷ []) (left (drop (length own) rest))
              ∙ ap (λ (cs : List Call). entries i row ++ words_in cs rest) (sym next) ∙ g.here;
          passed = ap (every small) one ∙ every_append small (take i calls) (c ∷ []) ∙ and_both g.passed (and_both (and_both (lt-ltb _ _ n) (lt-ltb _ _ u)) refl);
          long = ap length ea ∙ put_length row i c arms (omega arith) g.long;
          low = omega arith;
        }

-- The loop that unpacks: i calls are out of it, with their checkers.
pub record Unpacking (row : List ℕ) (programs opened : ℕ) (calls : List Call) (held : List Checker) (living i : ℕ) : Type 0 where
  pub out : calls ≡ fit 16 zero_call (map (call_in programs) (entries i row))
  pub behind : held ≡ fit 64 zero_checker (checkers_in (entries i row))
  pub count : living ≡ length (checkers_in (entries i row))
  pub near : living ≤ 4 * i
  pub low : i ≤ opened

checkers_more : (ws : List (List ℕ)) (w : List ℕ) → checkers_in (ws ++ w ∷ []) ≡ checkers_in ws ++ checkers_for (call_in 0 w) (arms_in w)
unfolding checkers_in
checkers_more [] w = append-nil (checkers_for (call_in 0 w) (arms_in w))
checkers_more (v ∷ ws) w = ap (λ (l : List Checker). checkers_for (call_in 0 v) (arms_in v) ++ l) (checkers_more ws w) ∙ sym (append_assoc (checkers_for (call_in 0 v) (arms_in v)) (checkers_in ws) (checkers_for (call_in 0 w) (arms_in w)))

-- at most four are armed
pub arms_few : (row : List ℕ) (i : ℕ) → i < 16 → (a : Arms) → a ≡ arms_at row i → a.count ≤ 4
arms_few row i h a e =
    let w = take 16 (drop (16 * i) row) in
    subst (λ (x : Arms). x.count ≤ 4) (sym (e ∙ arms_words row i h)) (omega (arith, length-take (get_or w 2 0) (take 4 (drop 3 w)), length-take 4 (drop 3 w)))

module _ (row : List ℕ) (programs opened : ℕ) (calls : List Call) (held : List Checker) where
  pub unpacking_start : calls ≡ replicate 16 zero_call → held ≡ replicate 64 zero_checker → Unpacking row programs opened calls held 0 0
  unfolding entries checkers_in fit
  unpacking_start e f = record { out = e; behind = f ∙ (filling_start 64 zero_checker []).all; count = refl; near = omega arith; low = omega arith }

  pub unpacking_next : (living i : ℕ) → Unpacking row programs opened calls held living i → i < opened → opened ≤ 16 → (c : Call) → c ≡ call_at row i programs → (a : Arms) → a ≡ arms_at row i
      → (after : List Checker) (lives : ℕ) → (after ≡ sets held living (map (checker c.number c.entry) (take a.count a.numbers))) × (lives ≡ living + length (take a.count a.numbers))
      → Unpacking row programs opened (set calls i c) after lives (i + 1)
  unpacking_next living i g h few c ec a ea after lives e =
      let w = take 16 (drop (16 * i) row) in
      let l = checkers_in (entries i row) in
      let call : c ≡ call_in programs w = ec ∙ call_words_lem row i (omega arith) programs in
      let arms : a ≡ arms_in w = ea ∙ arms_words row i (omega arith) in
      let own = checkers_for (call_in 0 w) (arms_in w) in
      let m = map (checker c.number c.entry) (take a.count a.numbers) in
      let new : m ≡ own = (λ j. map (checker (call j).number (call j).entry) (take (arms j).count (arms j).numbers)) in
      let all : checkers_in (entries (i + 1) row) ≡ l ++ own = rw (add-one i) (ap checkers_in (entries_more i row) ∙ checkers_more (entries i row) w) in
      record {
        out = out_more (call_in programs) zero_call row i calls c g.out call;
        behind = e.0 ∙ (λ j. sets (g.behind j) (g.count j) (new j)) ∙ sets_more zero_checker 64 l own ∙ ap (fit 64 zero_checker) (sym all);
        count = omega (arith, e.1, g.count, length-map (take a.count a.numbers) (checker c.number c.entry), ap length new, length-append l own, ap length all);
        near = omega (arith, g.near, e.1, length-take a.count a.numbers, arms_few row i (omega arith) a ea);
        low = omega arith;
      }

pub unpacking_end : (run : Running) (row variables : List ℕ) (programs monitors : ℕ) (calls : List Call) (checkers : List Checker) (living i : ℕ) → Unpacking row programs run.opened calls checkers living i → run.opened ≤ i → (front w : List ℕ) → front ≡ take monitors variables → w ≡ fit 8 0 front
    → record { main = run.main; variables = four w; opened = run.opened; calls = calls; living = living; checkers = checkers; position = run.position; outcome = run.outcome } ≡ unpacked programs monitors (words run row variables)
unfolding unpacked
unpacking_end run row variables programs monitors calls checkers living i g h front w ef ew =
    let same : i ≡ run.opened = omega (arith, g.low) in
    rw (ew, four_of_eight front, ef, g.out, g.behind, g.count, same)
