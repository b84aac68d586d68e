-- The tables of the card's network, part by part. Assumes nothing.
use mathlib.Core.Path.{◌≡◌, refl, ap, subst, ◌∙◌}
use mathlib.Core.Bool.{Bool, true, false}
use mathlib.Core.List.{List, [], ◌∷◌, ◌++◌, map, append_assoc}
use Prim.Native.Nat.{ℕ, zero, suc, ◌+◌, ◌-◌, ◌*◌, ◌≤◌, ◌<◌}
use native.Mathlib.Nat.{suc-mul}
use native.Mathlib.Omega.{arith}
use lib.ListN.{length, get_or, take, drop, length-append, length-drop, length-map}
use Rattle.sheet.specs.declared.Header.{Header}
use Rattle.sheet.specs.declared.Transition.{Transition}
use Rattle.sheet.specs.declared.Pair.{Pair}
use Rattle.sheet.specs.Bytes.{byte}
use Rattle.sheet.specs.Parts.{Paired}
use Rattle.sheet.specs.Table.{Form, records, extent, table, after}
use Rattle.sheet.specs.Decode.{wide, word_form, text_form, pair_form, paired_form, template_form, conditions_in, actions_in, transitions_in, last_in, conditions_at, actions_at, transitions_at, last_at, common_of, network_of}
use Rattle.sheet.specs.Encode.{word_bytes, text_bytes, pair_bytes, paired_bytes, template_bytes, written, table_bytes}
use Rattle.sheet.proofs.Tables.{length_records, fixed_extent}
use Rattle.sheet.proofs.Accepted.{tables_end}
use Rattle.translation.specs.declared.write.Both.{Both}
use Rattle.translation.specs.Card.{joined_from, joined_conditions, guarded_from, with_conditions, separated}
use Rattle.translation.specs.Walk.{Room, Writes, WritesTexts, texts_at}
use Rattle.translation.specs.CardWalk.{Narrow, PreparedNetwork}
use Rattle.translation.proofs.Networks.{take_most}
use Rattle.translation.proofs.Cards.Records.{templates_written}
use Rattle.translation.proofs.Cards.Reaching.{network, network_short, few_conditions_lem, few_transitions, transitions_end}
use Rattle.translation.proofs.Cards.Joining.{length_joined, joined_most}
use Rattle.translation.proofs.Writing.{Writing, writing_start, writing_room, writing_next, writing_last, written_append}

-- How long records are when they are written, from how long they were: each at most d bytes longer.
written_extent : {A : Type 0} (w : A → List ℕ) (F : Form A) (d : ℕ) → ((s : List ℕ) → length (w (F.value s)) ≤ F.size s + d) → (n : ℕ) (s : List ℕ) → length (written w (records F n s)) ≤ extent F n s + n * d
unfolding written records extent
written_extent w F d h zero s = omega arith
written_extent w F d h (suc n) s =
    let rest = drop (F.size s) s in
    rw (suc-mul n d) (omega (arith, length-append (w (F.value s)) (written w (records F n rest)), h s, written_extent w F d h n rest))

-- the texts that a list of at most n bytes each is written to
written_most : (n : ℕ) (l : List (List ℕ)) → ((t : List ℕ) (i : ℕ) → i < length l → t ≡ get_or l i [] → length t ≤ n) → length (written (text_bytes true) l) ≤ length l * (n + 2)
unfolding written
written_most n [] h = omega arith
written_most n (t ∷ l) h =
    rw (suc-mul (length l) (n + 2)) (omega (arith, length-append (text_bytes true t) (written (text_bytes true) l), h t 0 (omega arith) refl, written_most n l (λ u i k e. h u (suc i) (omega arith) e)))

-- transitions keep their length
pairs_length : (l : List Pair) → length (written pair_bytes l) ≡ 2 * length l
unfolding written
pairs_length [] = refl
pairs_length (x ∷ l) = omega (arith, pairs_length l)

guarded_extent : (i n : ℕ) (s : List ℕ) → length (written paired_bytes (guarded_from i (records paired_form n s))) ≡ extent paired_form n s
unfolding written guarded_from records extent
guarded_extent i zero s = refl
guarded_extent i (suc n) s =
    let rest = drop (paired_form.size s) s in
    let ps = records pair_form (byte s 6) (drop 7 s) in
    omega (arith, length-append (written pair_bytes ps) (written paired_bytes (guarded_from (suc i) (records paired_form n rest))), pairs_length ps, length_records pair_form (byte s 6) (drop 7 s), guarded_extent (suc i) n rest)

module _ {n : List ℕ} {h : Header} {index : List ℕ} {from last : ℕ} (p : PreparedNetwork n h index from last) where
  abbrev N : Narrow n index from
  N = p.network

  abbrev conditions : ℕ
  conditions = after word_form h.monitors n 14

  abbrev actions : ℕ
  actions = after (text_form false) h.conditions n (after word_form h.monitors n 14)

  abbrev first : List ℕ
  first = written word_bytes (table word_form h.monitors n 14)

  abbrev second : List ℕ
  second = written (text_bytes true) (table (text_form false) h.conditions n (after word_form h.monitors n 14))

  abbrev third : List ℕ
  third = written (text_bytes true) (joined_conditions (network_of n))

  abbrev fourth : List ℕ
  fourth = texts_at false n (after (text_form false) h.conditions n (after word_form h.monitors n 14)) h.actions

  abbrev fifth : List ℕ
  fifth = written paired_bytes (guarded_from h.conditions (table paired_form h.transitions n from))

  abbrev sixth : List ℕ
  sixth = take (2 * h.last) (drop last n)

  abbrev from_fifth : List ℕ
  from_fifth = fifth ++ sixth

  abbrev from_fourth : List ℕ
  from_fourth = fourth ++ from_fifth

  abbrev from_third : List ℕ
  from_third = third ++ from_fourth

  abbrev from_second : List ℕ
  from_second = second ++ from_third

  -- the tables end within the bytes
  actions_narrow : actions_at n ≡ after (text_form false) (conditions_in n) n (conditions_at n)
  unfolding actions_at
  actions_narrow = ap (λ (v : Bool). after (text_form v) (conditions_in n) n (conditions_at n)) N.narrow

  pub short : length n ≤ 7904
  short = network_short N

  pub conditions_end : after (text_form false) h.conditions n (after word_form h.monitors n 14) ≤ length n
  unfolding conditions_at transitions_at last_at
  conditions_end = rw p.header (omega (arith, actions_narrow, tables_end (network N)))

  pub actions_end : after (text_form false) h.actions n (after (text_form false) h.conditions n (after word_form h.monitors n 14)) ≤ length n
  unfolding conditions_at transitions_at last_at
  actions_end = rw p.header (subst (λ (m : ℕ). m + extent (text_form false) (actions_in n) (drop m n) ≤ length n) actions_narrow (omega (arith, tables_end (network N))))

  pub guarded_end : after paired_form h.transitions n from ≤ length n
  guarded_end = rw (p.header, N.from) (transitions_end N)

  pub last_end : last + 2 * h.last ≤ length n
  last_end =
      let e = fixed_extent template_form 2 (λ t. refl) (last_in n) (drop (last_at paired_form n) n) in
      rw (p.header, p.templates) (omega (arith, tables_end (network N)))

  pub counted : (h.transitions ≡ transitions_in n) × (h.conditions + h.transitions < 256)
  counted = rw p.header (refl, omega (arith, few_conditions_lem N, few_transitions N))

  actions_within : actions_at n + extent (text_form false) (actions_in n) (drop (actions_at n) n) ≤ length n
  unfolding transitions_at last_at
  actions_within = omega (arith, tables_end (network N))

  -- the tables one behind the other
  pub row : table_bytes true (separated (network_of n)) ≡ first ++ from_second
  unfolding table_bytes separated with_conditions network_of common_of conditions_at
  row =
      let C = common_of n in
      let J = joined_conditions (network_of n) in
      let w = written word_bytes (table word_form (byte n 6) n 14) in
      let b = written (text_bytes true) (table (text_form false) (conditions_in n) n (conditions_at n)) in
      let long = length_records (text_form (wide n)) (conditions_in n) (drop (conditions_at n) n) in
      let last-extent = fixed_extent template_form 2 (λ t. refl) (last_in n) (drop (last_at paired_form n) n) in
      let old : written (text_bytes true) (C.conditions ++ J) ≡ b ++ written (text_bytes true) J =
      written_append (text_bytes true) C.conditions J ∙ ap (λ (v : Bool). written (text_bytes true) (table (text_form v) (conditions_in n) n (conditions_at n)) ++ written (text_bytes true) J) N.narrow in
      let acts : written (text_bytes false) (table (text_form false) (actions_in n) n (actions_at n)) ≡ texts_at false n (after (text_form false) (conditions_in n) n (conditions_at n)) (actions_in n) =
      ap (λ (m : ℕ). texts_at false n m (actions_in n)) actions_narrow in
      let trans : written paired_bytes (guarded_from (length C.conditions) (table paired_form (transitions_in n) n (transitions_at n))) ≡ written paired_bytes (guarded_from (conditions_in n) (table paired_form (transitions_in n) n (transitions_at n))) =
      ap (λ (m : ℕ). written paired_bytes (guarded_from m (table paired_form (transitions_in n) n (transitions_at n)))) long in
      let double : last_in n * 2 ≡ 2 * last_in n = omega arith in
      let temps : written template_bytes (table template_form (last_in n) n (last_at paired_form n)) ≡ take (2 * last_in n) (drop (last_at paired_form n) n) =
      templates_written (last_in n) (drop (last_at paired_form n) n) (rw length-drop (omega (arith, tables_end (network N)))) ∙ ap (λ (m : ℕ). take m (drop (last_at paired_form n) n)) double in
      rw (p.header, N.from, p.templates) ((λ i. w ++ (old i ++ (acts i ++ (trans i ++ temps i)))) ∙ ap (λ (l : List ℕ). w ++ l) (append_assoc b (written (text_bytes true) J) _))

  -- how long they can be
  joined_few : (e l : List Transition) → length e + length l ≤ 96 → (t : List ℕ) (i : ℕ) → i < length (joined_from (common_of n) e l) → t ≡ get_or (joined_from (common_of n) e l) i [] → length t ≤ 6400
  unfolding joined_from
  joined_few e [] h t i k f = absurd (omega arith)
  joined_few e (u ∷ l) h t zero k f = rw f (omega (arith, joined_most N 0 u [] 0 e))
  joined_few e (u ∷ l) h t (suc i) k f = joined_few (e ++ u ∷ []) l (omega (arith, length-append e (u ∷ []))) t i (omega arith) f

  third_most : length (written (text_bytes true) (joined_conditions (network_of n))) ≤ 96 * 6402
  unfolding network_of
  third_most =
      let bs = map (λ (t : Paired). t.base) (table paired_form (transitions_in n) n (transitions_at n)) in
      let long : length bs ≡ transitions_in n = length-map (table paired_form (transitions_in n) n (transitions_at n)) (λ (t : Paired). t.base) ∙ length_records paired_form (transitions_in n) (drop (transitions_at n) n) in
      let most = written_most 6400 (joined_from (common_of n) [] bs) (joined_few [] bs (omega (arith, long, few_transitions N))) in
      omega (arith, most, length_joined (common_of n) [] bs, long, few_transitions N)

  pub total : 14 + length (table_bytes true (separated (network_of n))) ≤ 900000
  total =
      let a = length-append first from_second in
      let b = length-append second from_third in
      let c = length-append third from_fourth in
      let d = length-append fourth from_fifth in
      let e = length-append fifth sixth in
      let u = written_extent word_bytes word_form 0 (λ s. omega arith) h.monitors (drop 14 n) in
      let v = written_extent (text_bytes true) (text_form false) 1 (λ s. omega (arith, take_most (byte s 0) (drop 1 s))) h.conditions (drop conditions n) in
      let w = written_extent (text_bytes false) (text_form false) 0 (λ s. omega (arith, take_most (byte s 0) (drop 1 s))) h.actions (drop actions n) in
      let x = guarded_extent h.conditions h.transitions (drop from n) in
      let y = take_most (2 * h.last) (drop last n) in
      rw row (omega (arith, third_most, conditions_end, actions_end, guarded_end, last_end, short, counted.1))

  -- each part has room, and is followed by the next
  module _ (o : List ℕ) (at : ℕ) (e : at ≡ 14) where
    abbrev whole : List ℕ
    whole = table_bytes true (separated (network_of n))

    fits : at + length (table_bytes true (separated (network_of n))) ≤ 1000000
    fits = omega (arith, total)

    start : Writing o at (table_bytes true (separated (network_of n))) o at (first ++ from_second)
    start = rw (← row) (writing_start o at whole)

    pub room_first : Room at (written word_bytes (table word_form h.monitors n 14))
    room_first = writing_room o at whole o at first from_second start fits

    pub next_first : (q : List ℕ) (r : ℕ) → Writes o q at (written word_bytes (table word_form h.monitors n 14)) r → Writing o at (table_bytes true (separated (network_of n))) q r from_second
    next_first q r w = writing_next o at whole o at first from_second start q r w

    module _ (out : List ℕ) (here : ℕ) where
      module _ (g : Writing o at (table_bytes true (separated (network_of n))) out here from_second) (m : ℕ) (em : m ≡ after word_form h.monitors n 14) where
        pub room_second : Room here (written (text_bytes true) (table (text_form false) h.conditions n m))
        room_second = rw em (writing_room o at whole out here second from_third g fits)

        pub next_second : (q : List ℕ) (r : Both) → WritesTexts true n out q m h.conditions here r → Writing o at (table_bytes true (separated (network_of n))) q r.at from_third
        next_second q r w = writing_next o at whole out here second from_third g q r.at (rw em at w.writes)

        pub read_second : (q : List ℕ) (r : Both) → WritesTexts true n out q m h.conditions here r → r.from ≡ after (text_form false) h.conditions n (after word_form h.monitors n 14)
        read_second q r w = rw em at w.read

      module _ (g : Writing o at (table_bytes true (separated (network_of n))) out here from_third) where
        pub room_third : Room here (written (text_bytes true) (joined_conditions (network_of n)))
        room_third = writing_room o at whole out here third from_fourth g fits

        pub next_third : (q : List ℕ) (r : ℕ) → Writes out q here (written (text_bytes true) (joined_conditions (network_of n))) r → Writing o at (table_bytes true (separated (network_of n))) q r from_fourth
        next_third q r w = writing_next o at whole out here third from_fourth g q r w

      module _ (g : Writing o at (table_bytes true (separated (network_of n))) out here from_fourth) (m : ℕ) (em : m ≡ after (text_form false) h.conditions n (after word_form h.monitors n 14)) where
        pub room_fourth : Room here (texts_at false n m h.actions)
        room_fourth = rw em (writing_room o at whole out here fourth from_fifth g fits)

        pub next_fourth : (q : List ℕ) (r : Both) → WritesTexts false n out q m h.actions here r → Writing o at (table_bytes true (separated (network_of n))) q r.at from_fifth
        next_fourth q r w = writing_next o at whole out here fourth from_fifth g q r.at (rw em at w.writes)

      module _ (g : Writing o at (table_bytes true (separated (network_of n))) out here from_fifth) where
        pub room_fifth : Room here (written paired_bytes (guarded_from h.conditions (table paired_form h.transitions n from)))
        room_fifth = writing_room o at whole out here fifth sixth g fits

        pub next_fifth : (q : List ℕ) (r : ℕ) → Writes out q here (written paired_bytes (guarded_from h.conditions (table paired_form h.transitions n from))) r → Writing o at (table_bytes true (separated (network_of n))) q r sixth
        next_fifth q r w = writing_next o at whole out here fifth sixth g q r w

      -- the templates are copied
      module _ (g : Writing o at (table_bytes true (separated (network_of n))) out here sixth) (k : ℕ) (ek : k ≡ h.last) where
        templates_are : last + 2 * k - last ≡ 2 * h.last
        templates_are = omega (arith, ek)

        pub room_sixth : Room here (take (last + 2 * k - last) (drop last n))
        room_sixth = rw templates_are (omega (arith, g.place, fits))

        pub tables_done : (q : List ℕ) (r : ℕ) → Writes out q here (take (last + 2 * k - last) (drop last n)) r → Writes o q at (table_bytes true (separated (network_of n))) r
        tables_done q r w = writing_last o at whole out here sixth g q r (rw templates_are at w)
