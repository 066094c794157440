-- What a text sets, and line after line. Assumes nothing.
use Rattle.std.proofs.Common.{◌≡◌, ℕ, suc, ◌+◌, ◌-◌, ◌<◌, ◌≤◌, Bool, true, false, cond, ◌&&◌, eqb, ltb, List, [], ◌∷◌, length, take, drop, Err, sym, refl, ◌∙◌, le_refl, add-one, arith, length-drop, le-ltb, lt-ltb, le-leb, take_all}
use Rattle.std.proofs.Math.Dec.{eqb-suc-zero}
use borrow.Author.Tests.{lt-leb}
use Rattle.std.specs.List.{slice_index}
use Rattle.plain_text.specs.Text.{index_of, before, lines_of, starts_with, after_mark}
use Rattle.plain_text.specs.Pieces.{lines_behind, lines_first}
use Rattle.decimal_text.specs.declared.DecimalError.{DecimalError}
use Rattle.decimal_text.specs.declared.DecimalError.TheVariants.{TooLong, NotDecimal}
use Rattle.setting_table.specs.Names.{none}
use Rattle.cell_file.specs.declared.Fault.{Fault}
use Rattle.cell_file.specs.Answers.{Settings, number_of, fault_from}
use Rattle.cell_file.specs.Settings.{setting, long_file, not_given, valued, faulted, taken_line, lines_taken, file_taken, last, in_sheets, is_asked, missing_by, whole_sheets, cell_taken}
use Rattle.binary64.specs.Literals.{«0·0»}

pub is_fault : (e : Fault) → eqb (number_of e) 0 ≡ false
is_fault e = eqb-suc-zero _

pub valued_none : (k : ℕ) (e : DecimalError) → setting (number_of (fault_from e)) k «0·0» ≡ valued k (Err e)
unfolding valued
valued_none k TooLong = refl
valued_none k NotDecimal = refl

-- a text without a remark
pub before_all : (b : ℕ) (s : List ℕ) → index_of b s ≡ length s → s ≡ before b s
unfolding before
before_all b s e = rw e (sym (take_all (length s) s (le_refl (length s))))

pub before_some : (b : ℕ) (s t : List ℕ) → t ≡ take (index_of b s) s → t ≡ before b s
unfolding before
before_some b s t e = e

-- ---- after a fault nothing is taken
pub fault_stays : (ls : List (List ℕ)) (st : Settings) (n : ℕ) → eqb st.fault 0 ≡ false → st ≡ lines_taken st n ls
unfolding lines_taken taken_line
fault_stays [] st n h = refl
fault_stays (l ∷ ls) st n h = rw h (fault_stays ls st (suc n) h)

-- ---- the first line, and those after it
module _ (st next : Settings) (n : ℕ) (s first : List ℕ) where
  first-line : first ≡ take (index_of 10 s) s → next ≡ taken_line st n first → lines_taken next (suc n) (lines_behind s) ≡ lines_taken st n (lines_of s)
  unfolding lines_taken
  first-line e q = rw (lines_first s, q, e)

  is_behind : index_of 10 s < length s → lines_behind s ≡ lines_of (drop (suc (index_of 10 s)) s)
  unfolding lines_behind
  is_behind h = rw (lt-ltb _ _ h)

  none_behind : index_of 10 s ≡ length s → lines_behind s ≡ []
  unfolding lines_behind
  none_behind h = rw (h, le-ltb (length s) (length s) (le_refl (length s)))

  pub line-turn :
      (others : List ℕ) → index_of 10 s < length s → first ≡ take (index_of 10 s) s → others ≡ drop (suc (index_of 10 s)) s → next ≡ taken_line st n first
      → lines_taken next (n + 1) (lines_of others) ≡ lines_taken st n (lines_of s)
  line-turn others h e f q = rw (f, ← is_behind h, add-one n) (first-line e q)

  pub line-fault : first ≡ take (index_of 10 s) s → next ≡ taken_line st n first → eqb next.fault 0 ≡ false → next ≡ lines_taken st n (lines_of s)
  line-fault e q h = fault_stays (lines_behind s) next (suc n) h ∙ first-line e q

  pub line-last : index_of 10 s ≡ length s → first ≡ s → next ≡ taken_line st n first → next ≡ lines_taken st n (lines_of s)
  unfolding lines_taken
  line-last h e q = rw (none_behind h) at (first-line (e ∙ rw h (sym (take_all (length s) s (le_refl (length s))))) q)

pub rest_shorter : (s others : List ℕ) (n : ℕ) → n < length s → others ≡ drop (suc n) s → length others + 1 ≤ length s
rest_shorter s others n h e = rw (e, length-drop (suc n) s) (omega arith)

pub mark_length : (s : List ℕ) → length (after_mark s) ≤ length s
unfolding after_mark
mark_length s = go (starts_with s (239 ∷ 187 ∷ 191 ∷ []))
  where
    go : (t : Bool) → length (cond t (drop 3 s) s) ≤ length s
    go true = rw (length-drop 3 s) (omega arith)
    go false = le_refl (length s)

-- ---- a number that is missing, place by place
pub missing_turn : (i : ℕ) (g : List ℕ) → i < none → missing_by (none - i) g ≡ cond (is_asked i && eqb (slice_index g i) 0) i (missing_by (none - (i + 1)) g)
unfolding missing_by
missing_turn i g h =
    let q : none - i ≡ suc (none - (i + 1)) = omega arith in
    let p : last - (none - (i + 1)) ≡ i = omega arith in
    rw (q, p)

pub missing_over : (i : ℕ) (g : List ℕ) → none ≤ i → missing_by (none - i) g ≡ none
unfolding missing_by
missing_over i g h = let q : none - i ≡ 0 = omega arith in rw q

-- ---- the three ends of a cell file
module _ (st : Settings) (s : List ℕ) where
  pub cell_long : 4095 < length s → faulted st 0 long_file none ≡ cell_taken st s
  unfolding cell_taken file_taken whole_sheets faulted
  cell_long h = rw (lt-leb (length s) 4095 h)

  module _ (r : Settings) (m : ℕ) (h : length s ≤ 4095) (e : r ≡ lines_taken st 1 (lines_of (after_mark s))) (q : m ≡ missing_by in_sheets r.given) where
    pub cell_missing : eqb r.fault 0 && ltb m none ≡ true → faulted r 0 not_given m ≡ cell_taken st s
    unfolding cell_taken file_taken whole_sheets
    cell_missing t = rw (le-leb (length s) 4095 h, ← e, ← q, t)

    pub cell_whole : eqb r.fault 0 && ltb m none ≡ false → r ≡ cell_taken st s
    unfolding cell_taken file_taken whole_sheets
    cell_whole t = rw (le-leb (length s) 4095 h, ← e, ← q, t)
