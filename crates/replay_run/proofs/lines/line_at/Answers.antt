-- `replay_run::lines::line_at` meets its contract. Assumes nothing.
use Rattle.std.proofs.Common.{ℕ, ◌+◌, ◌*◌, ◌/◌, ◌≤◌, ◌<◌, ◌≡◌, arith, List, length}
use Rattle.std.proofs.lemmas.Bool.{lt-leb, le-leb}
use Rattle.replay_run.specs.Lines.{line_from, line_at}
use Rattle.replay_run.specs.Reads.{line_read}
use Rattle.replay_run.proofs.lines.line_at.Goals as goal

-- a line that stands in the text
stands : (s : List ℕ) (k : ℕ) → k < length s / 34 → line_at s k ≡ line_from s (k * 34)
unfolding line_at
stands s k h = let e : k * 34 + 34 ≤ length s = omega arith in rw (le-leb _ _ e)

pub returns-then-text-k : goal.returns-then-text-k
unfolding line_read line_at
returns-then-text-k c =
    let over : length c.args.text.now < c.args.k * 34 + 34 = omega (arith, c.if-text-k.true) in
    record { numbers = rw (lt-leb _ _ over); read = rw (lt-leb _ _ over) }

pub returns-then-well_formed : goal.returns-then-well_formed
unfolding line_read line_from
returns-then-well_formed c =
    let a = c.hex_word-interval.ensures in
    let b = c.hex_word-current.ensures in
    let well = rw (c.is_ok.ensures.value, c.is_ok-2.ensures.value, a.digits, b.digits) at c.if-well_formed.true in
    record {
      numbers = rw (stands _ _ c.if-text-k.false, well, c.from_bits.ensures, c.from_bits-2.ensures, c.bits_of.ensures, c.bits_of-2.ensures, a.bits, b.bits);
      read = rw (stands _ _ c.if-text-k.false, well, c.from_bits.ensures, c.from_bits-2.ensures, c.bits_of.ensures, c.bits_of-2.ensures, a.bits, b.bits);
    }

pub returns-else-well_formed : goal.returns-else-well_formed
unfolding line_read line_from
returns-else-well_formed c =
    let a = c.hex_word-interval.ensures in
    let b = c.hex_word-current.ensures in
    let well = rw (c.is_ok.ensures.value, c.is_ok-2.ensures.value, a.digits, b.digits) at c.if-well_formed.false in
    record {
      numbers = rw (stands _ _ c.if-text-k.false, well, c.from_bits.ensures, c.from_bits-2.ensures, c.bits_of.ensures, c.bits_of-2.ensures, a.bits, b.bits);
      read = rw (stands _ _ c.if-text-k.false, well);
    }
