-- Decoding what was encoded gives it back, and a network that is admitted is read without a refusal. Assumes nothing.
use mathlib.Core.Path.{◌≡◌, refl, sym, ap, ◌∙◌}
use mathlib.Core.Bool.{Bool, true, false, cond}
use mathlib.Core.List.{List, [], ◌∷◌, ◌++◌, append_assoc, append-nil, map}
use Prim.Native.Nat.{ℕ, ◌+◌, ◌*◌, ◌/◌, ◌%◌}
use native.Mathlib.Omega.{arith}
use borrow.Author.Tests.{eq-eqb}
use lib.ListN.{length, drop, length-append}
use lib.Seq.{drop-drop, drop_at, take-append_seam}
use Rattle.condition.specs.Word.{big_endian}
use Rattle.sheet.specs.declared.Pair.{Pair}
use Rattle.sheet.specs.Bytes.{byte}
use Rattle.sheet.specs.Table.{every, Form, records, extent, table, after}
use Rattle.sheet.specs.Parts.{Paired, Network}
use Rattle.sheet.specs.Decode.{wide, word_form, text_form, length_form, pair_form, paired_form, pair_count_form, template_form, conditions_in, actions_in, transitions_in, last_in, conditions_at, actions_at, transitions_at, last_at, common_of, network_of}
use Rattle.sheet.specs.Encode.{word_bytes, text_bytes, pair_bytes, paired_bytes, template_bytes, written, table_bytes, encode, within_counts, within_lengths, admitted}
use Rattle.sheet.specs.Reading.{between, most_bytes, whole, counted, tabled, formed, ranged, roled, reading, network_layout}
use Rattle.sheet.proofs.Tables.{and_both, every_map}
use Rattle.sheet.proofs.Tests.{and_iff, leb_iff, eqb_iff}
use Rattle.sheet.proofs.Accepted.{Accepted, reading_accepted}

-- What F reads off the front of what w writes: f of it, and all its bytes.
pub record Undoes {A B : Type 0} (F : Form B) (w : A → List ℕ) (f : A → B) : Type 0 where
  pub value : (x : A) (t : List ℕ) → F.value (w x ++ t) ≡ f x
  pub size : (x : A) (t : List ℕ) → F.size (w x ++ t) ≡ length (w x)

module _ {A B : Type 0} {F : Form B} {w : A → List ℕ} {f : A → B} (u : Undoes F w f) where
  pub records_written : (l : List A) (t : List ℕ) → records F (length l) (written w l ++ t) ≡ map f l
  unfolding records written
  records_written [] t = refl
  records_written (x ∷ l) t = rw (append_assoc (w x) (written w l) t, u.value x (written w l ++ t), u.size x (written w l ++ t), drop_at (w x) (written w l ++ t) (length (w x)) refl, records_written l t)

  pub extent_written : (l : List A) (t : List ℕ) → extent F (length l) (written w l ++ t) ≡ length (written w l)
  unfolding extent written
  extent_written [] t = refl
  extent_written (x ∷ l) t = rw (append_assoc (w x) (written w l) t, u.size x (written w l ++ t), drop_at (w x) (written w l ++ t) (length (w x)) refl, extent_written l t, length-append)

map_same : {A : Type 0} (l : List A) → map (λ x. x) l ≡ l
map_same [] = refl
map_same (x ∷ l) = ap (λ m. x ∷ m) (map_same l)

-- Each form undoes its bytes, and so do two bytes of a number.
half_same : (m : ℕ) → m / 256 * 256 + m % 256 ≡ m
half_same m = omega arith

pub undoes_word : Undoes word_form word_bytes (λ m. m)
unfolding big_endian
undoes_word = record { value = λ m t. omega arith; size = λ m t. refl }

pub undoes_text : (w : Bool) → Undoes (text_form w) (text_bytes w) (λ t. t)
undoes_text true = record { value = λ t r. rw (half_same (length t)) (take-append_seam t r); size = λ t r. rw (half_same (length t)) (omega arith) }
undoes_text false = record { value = λ t r. take-append_seam t r; size = λ t r. omega arith }

pub undoes_length : (w : Bool) → Undoes (length_form w) (text_bytes w) (λ t. length t)
undoes_length true = record { value = λ t r. half_same (length t); size = λ t r. rw (half_same (length t)) (omega arith) }
undoes_length false = record { value = λ t r. refl; size = λ t r. omega arith }

pub undoes_pair : Undoes pair_form pair_bytes (λ p. p)
undoes_pair = record { value = λ p t. refl; size = λ p t. refl }

pub undoes_template : Undoes template_form template_bytes (λ p. p)
undoes_template = record { value = λ p t. refl; size = λ p t. refl }

pub length_pairs : (l : List Pair) → length (written pair_bytes l) ≡ 2 * length l
unfolding written
length_pairs [] = refl
length_pairs (p ∷ l) = omega (arith, length_pairs l)

pub undoes_paired : Undoes paired_form paired_bytes (λ t. t)
undoes_paired = record {
  value = λ p t. rw (records_written undoes_pair p.pairs t, map_same p.pairs);
  size = λ p t. omega (arith, length_pairs p.pairs);
}

pub undoes_pair_count : Undoes pair_count_form paired_bytes (λ t. length t.pairs)
undoes_pair_count = record { value = λ p t. refl; size = λ p t. omega (arith, length_pairs p.pairs) }

-- A table of l stands in s at a, with t behind it: what F reads there, and where the table ends.
pub record Stands {A B : Type 0} (F : Form B) (w : A → List ℕ) (f : A → B) (l : List A) (s : List ℕ) (n a : ℕ) (t : List ℕ) : Type 0 where
  pub values : table F n s a ≡ map f l
  pub end : after F n s a ≡ a + length (written w l)
  pub behind : drop (after F n s a) s ≡ t

pub stands : {A B : Type 0} {F : Form B} {w : A → List ℕ} {f : A → B} → Undoes F w f
    → (l : List A) (s : List ℕ) (n a : ℕ) (t : List ℕ) → n ≡ length l → drop a s ≡ written w l ++ t → Stands F w f l s n a t
stands {F} {w} u l s n a t h e =
    let z : after F n s a ≡ a + length (written w l) = rw (e, h, extent_written u l t) in
    record {
      values = rw (e, h) (records_written u l t);
      end = z;
      behind = rw (z, ← drop-drop (length (written w l)) a s, e) (drop_at (written w l) t (length (written w l)) refl);
    }

-- The tables of a network, from each one on.
abbrev pub templates_on : Network → List ℕ
templates_on N = written template_bytes N.templates

abbrev pub transitions_on : Network → List ℕ
transitions_on N = written paired_bytes N.transitions ++ templates_on N

abbrev pub actions_on : Network → List ℕ
actions_on N = written (text_bytes false) N.common.actions ++ transitions_on N

abbrev pub conditions_on : Bool → Network → List ℕ
conditions_on w N = written (text_bytes w) N.common.conditions ++ actions_on N

-- what is written says whether its lengths are wide
pub encode_wide : (w : Bool) (N : Network) → wide (encode w N) ≡ w
unfolding encode
encode_wide true N = refl
encode_wide false N = refl

own_text : (w : Bool) (N : Network) → Undoes (text_form (wide (encode w N))) (text_bytes w) (λ t. t)
own_text w N = rw (encode_wide w N) (undoes_text w)

pub length_encode : (w : Bool) (N : Network) → length (encode w N) ≡ 14 + (length (written word_bytes N.common.initial) + (length (written (text_bytes w) N.common.conditions) + (length (written (text_bytes false) N.common.actions) + (length (written paired_bytes N.transitions) + length (written template_bytes N.templates)))))
unfolding encode table_bytes
length_encode w N = simp length-append (omega arith)

module _ (w : Bool) (N : Network) (fits : length N.common.initial ≡ N.common.monitors) where
  pub initial_stands : Stands word_form word_bytes (λ m. m) N.common.initial (encode w N) (byte (encode w N) 6) 14 (conditions_on w N)
  unfolding encode table_bytes
  initial_stands = stands undoes_word N.common.initial (encode w N) N.common.monitors 14 (conditions_on w N) (sym fits) refl

  -- by the texts or by their lengths
  pub conditions_stand : {B : Type 0} {F : Form B} {f : List ℕ → B} → Undoes F (text_bytes w) f
      → Stands F (text_bytes w) f N.common.conditions (encode w N) (conditions_in (encode w N)) (conditions_at (encode w N)) (actions_on N)
  unfolding encode conditions_at
  conditions_stand u = stands u N.common.conditions (encode w N) (length N.common.conditions) (conditions_at (encode w N)) (actions_on N) refl initial_stands.behind

  pub actions_stand : {B : Type 0} {F : Form B} {f : List ℕ → B} → Undoes F (text_bytes false) f
      → Stands F (text_bytes false) f N.common.actions (encode w N) (actions_in (encode w N)) (actions_at (encode w N)) (transitions_on N)
  unfolding encode actions_at
  actions_stand u = stands u N.common.actions (encode w N) (length N.common.actions) (actions_at (encode w N)) (transitions_on N) refl (conditions_stand (own_text w N)).behind

  -- with their pairs or by how many those are
  pub transitions_stand : {B : Type 0} {F : Form B} {f : Paired → B} → Undoes F paired_bytes f
      → Stands F paired_bytes f N.transitions (encode w N) (transitions_in (encode w N)) (transitions_at (encode w N)) (templates_on N)
  unfolding encode transitions_at
  transitions_stand u = stands u N.transitions (encode w N) (length N.transitions) (transitions_at (encode w N)) (templates_on N) refl (actions_stand (undoes_text false)).behind

  pub templates_stand : Stands template_form template_bytes (λ t. t) N.templates (encode w N) (last_in (encode w N)) (last_at paired_form (encode w N)) []
  unfolding encode last_at
  templates_stand = stands undoes_template N.templates (encode w N) (length N.templates) (last_at paired_form (encode w N)) [] refl ((transitions_stand undoes_paired).behind ∙ sym (append-nil (templates_on N)))

  -- where the tables begin, and that the last one ends at the end
  pub conditions_at_lem : conditions_at (encode w N) ≡ 14 + length (written word_bytes N.common.initial)
  unfolding conditions_at
  conditions_at_lem = initial_stands.end

  pub actions_at_lem : actions_at (encode w N) ≡ conditions_at (encode w N) + length (written (text_bytes w) N.common.conditions)
  unfolding actions_at
  actions_at_lem = (conditions_stand (own_text w N)).end

  pub transitions_at_lem : transitions_at (encode w N) ≡ actions_at (encode w N) + length (written (text_bytes false) N.common.actions)
  unfolding transitions_at
  transitions_at_lem = (actions_stand (undoes_text false)).end

  pub templates_at_lem : last_at paired_form (encode w N) ≡ transitions_at (encode w N) + length (written paired_bytes N.transitions)
  unfolding last_at
  templates_at_lem = (transitions_stand undoes_paired).end

  pub encode_end : after template_form (last_in (encode w N)) (encode w N) (last_at paired_form (encode w N)) ≡ length (encode w N)
  encode_end = rw (templates_stand.end, templates_at_lem, transitions_at_lem, actions_at_lem, conditions_at_lem, length_encode w N) (omega arith)

  pub decode_encode : network_of (encode w N) ≡ N
  unfolding network_of common_of encode
  decode_encode = λ i. record {
    common = record {
      states = N.common.states;
      units = N.common.units;
      programs = N.common.programs;
      monitors = N.common.monitors;
      start = N.common.start;
      bad = half_same N.common.bad i;
      initial = (initial_stands.values ∙ map_same N.common.initial) i;
      conditions = ((conditions_stand (own_text w N)).values ∙ map_same N.common.conditions) i;
      actions = ((actions_stand (undoes_text false)).values ∙ map_same N.common.actions) i;
    };
    transitions = ((transitions_stand undoes_paired).values ∙ map_same N.transitions) i;
    templates = (templates_stand.values ∙ map_same N.templates) i;
  }

passes : (M N : Network) → M ≡ N → (p : Network → Bool) → p N ≡ true → p M ≡ true
passes M N e p h = ap p e ∙ h

-- A network that is admitted is read without a refusal.
module _ (w : Bool) (N : Network) where
  encode_whole : whole (encode w N) ≡ true
  unfolding whole encode
  encode_whole = simp (and_iff, leb_iff, eqb_iff) (omega arith, half_same (14 + length (table_bytes w N)) ∙ omega arith)

  encode_version : network_layout.version (byte (encode w N) 2) ≡ true
  unfolding encode
  encode_version = go w
    where
      go : (v : Bool) → network_layout.version (cond v 3 2) ≡ true
      go true = refl
      go false = refl

  encode_counted : within_counts w N ≡ true → counted network_layout (encode w N) ≡ true
  unfolding within_counts counted encode
  encode_counted h =
      let (q, (u, (p, (v, (c, (a, (n, (l, (b, (d, (g, i))))))))))) = simp and_iff at h in
      rw (encode_wide w N, half_same) (simp and_iff (q, (u, (p, (v, (c, (a, (n, (l, (b, (d, g)))))))))))

  encode_fits : within_counts w N ≡ true → length N.common.initial ≡ N.common.monitors
  unfolding within_counts
  encode_fits h = let (q, (u, (p, (v, (c, (a, (n, (l, (b, (d, (g, i))))))))))) = simp (and_iff, eqb_iff) at h in i

  module _ (fits : length N.common.initial ≡ N.common.monitors) (m : every (λ t. between 0 4 (length t.pairs)) N.transitions ≡ true) (f : within_lengths w N ≡ true) where
    encode_tabled : tabled network_layout (encode w N) ≡ true
    unfolding tabled within_lengths
    encode_tabled =
        let (x, y) = simp and_iff at f in
        rw (encode_wide w N, (conditions_stand w N fits (undoes_length w)).values, (actions_stand w N fits (undoes_length false)).values, (transitions_stand w N fits undoes_pair_count).values, every_map (between 0 4) (λ t. length t.pairs) N.transitions, encode_end w N fits)
        (and_both (every_map (between 1 (most_bytes w)) (λ t. length t) N.common.conditions ∙ x) (and_both (every_map (between 0 (most_bytes false)) (λ t. length t) N.common.actions ∙ y) (and_both m (eq-eqb (length (encode w N)) (length (encode w N)) refl))))

  pub admitted_decode : admitted w N ≡ true → network_of (encode w N) ≡ N
  unfolding admitted
  admitted_decode h = let (c, rest) = simp and_iff at h in decode_encode w N (encode_fits c)

  pub accepted_encode : admitted w N ≡ true → Accepted network_layout (encode w N)
  unfolding admitted network_of encode
  accepted_encode h =
      let (c, (k, (m, (f, (r, o))))) = simp and_iff at h in
      let e = decode_encode w N (encode_fits c) in
      record {
        whole = encode_whole;
        version = encode_version;
        counted = encode_counted c;
        tabled = encode_tabled (encode_fits c) m k;
        formed = passes (network_of (encode w N)) N e (λ M. formed M.common) f;
        ranged = passes (network_of (encode w N)) N e (λ M. ranged network_layout M.common M.transitions M.templates) r;
        roled = passes (network_of (encode w N)) N e (λ M. roled network_layout M.common M.transitions M.templates) o;
        spread = refl;
      }

  pub reading_encode : admitted w N ≡ true → reading network_layout (encode w N) ≡ 0
  reading_encode h = reading_accepted network_layout (encode w N) (accepted_encode h)
