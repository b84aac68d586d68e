-- The sheet of an input, the run of its network, and the lines that are printed. Assumes nothing.
use mathlib.Core.Path.{◌≡◌, sym, ap, ◌∙◌}
use mathlib.Core.List.{List}
use Prim.Native.Nat.{ℕ, ◌-◌, ◌≤◌, ◌<◌}
use native.Mathlib.Omega.{arith}
use borrow.Author.Tests.{lt-ltb, le-ltb, le-leb, lt-leb}
use lib.ListN.{length, take, drop, length-drop}
use lib.Seq.{sets, take_all}
use Rattle.sheet.specs.Bytes.{half}
use Rattle.step.specs.declared.RunAnswer.{RunAnswer}
use Rattle.step.specs.Answers as ending
use Rattle.step.specs.Answers.{Ending, run_paper}
use Rattle.std.specs.Prelude.{Result, Ok, Err}
use Rattle.refusal.specs.declared.Refusal.{Refusal}
use Rattle.refusal.specs.Numbers.{number_of}
use Rattle.translation.specs.Answer.{translated_paper, translated_of, buffer_of}
use Rattle.translation.proofs.Cut.{sheet_accepted, refused_reading, told, cut}
use Rattle.monitor.specs.Answers as OnSheet
use Rattle.network.specs.Answers as OnNetwork
use Rattle.lines.specs.Text.{too_long}
use Rattle.lines.specs.Lines.{sheet_size, network_run, lines_of}
use Rattle.lines.specs.Walk.{Puts, line_of}
use Rattle.lines.proofs.Texts.{puts_then}

-- how many bytes are the sheet: where there are fewer than two, where the first two say fewer than there are, and else
module _ (i : List ℕ) where
  pub size_all : length i < 2 → length i ≡ sheet_size i
  unfolding sheet_size
  size_all h = rw (lt-ltb (length i) 2 h)

  module _ (h : 2 ≤ length i) (said : ℕ) (e : said ≡ half i 0) where
    pub size_said : said < length i → said ≡ sheet_size i
    unfolding sheet_size
    size_said k = rw (le-ltb (length i) 2 h, ← e) (omega arith)

    pub size_short : length i ≤ said → length i ≡ sheet_size i
    unfolding sheet_size
    size_short k = rw (le-ltb (length i) 2 h, ← e) (omega arith)

-- what translating a sheet answered, and the run on what it left in the buffer
module _ (s buffer : List ℕ) (t : Result ℕ Refusal) (e : translated_paper t ≡ translated_of s buffer) where
  pub written_run : (n : ℕ) → t ≡ Ok n → (last : List ℕ) → last ≡ buffer_of s buffer → (log : List ℕ) (r : Ending) → r ≡ OnNetwork.run_of (take n last) log → r ≡ network_run s log
  written_run n h last f log r g = rw (sheet_accepted s buffer n (told s buffer t e n h)) (g ∙ ap (λ l. OnNetwork.run_of l log) (cut s buffer t e n h last f))

  pub refused_run : 8192 ≤ length buffer → (n : Refusal) → t ≡ Err n → (log : List ℕ) → ending.refused (number_of n) ≡ network_run s log
  refused_run k n h log =
      let (m, f, g) = refused_reading s buffer k (number_of n) (sym e ∙ ap translated_paper h) in
      rw (f, g)

-- What `lines` promises, from what was stored at the front: "too long", or a line behind another.
abbrev Printed : List ℕ → List ℕ → List ℕ → ℕ → Type 0
Printed o p i r = ((r ≡ length (lines_of i)) × (r ≤ 300)) × (p ≡ sets o 0 (lines_of i))

printed : {o p l : List ℕ} {r n : ℕ} (i : List ℕ) → lines_of i ≡ l → Puts o p 0 l r n → n ≤ 300 → Printed o p i r
printed i e w h = rw e ((omega (arith, w.writes.next), omega (arith, w.near)), w.writes.all)

module _ {o p : List ℕ} (i : List ℕ) where
  pub print_long : {r : ℕ} → 65536 < length i → Puts o p 0 too_long r 20 → Printed o p i r
  unfolding lines_of
  print_long h w = printed i (rw (lt-leb (length i) 65536 h)) w (omega arith)

  -- the log is all that is left behind the sheet
  pub print_lines : {q : List ℕ} {m r : ℕ} (n : ℕ) (a b : RunAnswer) → length i ≤ 65536 → n ≡ sheet_size i → run_paper a ≡ OnSheet.run_of (take n i) (take (length i - n) (drop n i))
      → run_paper b ≡ network_run (take n i) (take (length i - n) (drop n i)) → Puts o p 0 (line_of a) m 150 → Puts p q m (line_of b) r 150 → Printed o q i r
  unfolding lines_of line_of
  print_lines n a b h e f g v w =
      let rest : take (length i - n) (drop n i) ≡ drop n i = take_all (length i - n) (drop n i) (omega (arith, length-drop n i)) in
      printed i (rw (le-leb (length i) 65536 h, ← e, ← rest, ← f, ← g)) (puts_then (line_of a) (line_of b) v w) (omega arith)
