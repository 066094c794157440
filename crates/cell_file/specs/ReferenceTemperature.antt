-- A number that no line of a cell file gives is the one that the file starts from. So a sheet's t_ref is 298.15 K where the file leaves it out, and a file that gives all
-- other numbers of both sheets is not refused. Assumes nothing.
use Rattle.std.specs.Prelude.{◌≡◌, ℕ, zero, suc, ◌-◌, ◌<◌, ◌≤◌, Bool, true, false, cond, ◌&&◌, List, [], ◌∷◌, length, get_or, ◌==◌, ◌≢◌, nat_le, nat_lt, slice_index, slice_index_or, slice_set}
use Rattle.std.proofs.Math.Path.{refl}
use Rattle.std.proofs.Common.{◌∙◌, arith, lit<, lit≤, get_or-set_same}
use Rattle.std.proofs.Math.Bool.{and-false}
use Rattle.std.proofs.lemmas.Bool.{false≢true}
use borrow.Author.Tests.{eqb-true, eqb-false}
use Rattle.std.specs.Float.Ieee.{nan}
use Rattle.std.proofs.Math.ListN.{length-set}
use Rattle.std.proofs.Math.Seq.{get_or-set_other}
use Rattle.binary64.specs.Literals.{«298·15»}
use Rattle.iterate.specs.Iterate.{all_below}
use Rattle.plain_text.specs.Text.{starts_with, lines_of, after_mark}
use Rattle.electrode.specs.Sheet.{graphite_anode, nmc_cathode}
use Rattle.electrode.specs.Numbers.{sheet_of}
use Rattle.setting_table.specs.Names.{anode, cathode, none, bytes_of, letter_of, is_named, place_by, place_of}
use Rattle.cell_file.specs.Answers.{Setting, Settings}
use Rattle.cell_file.specs.Settings.{given_twice, long_file, not_given, fresh_settings, faulted, given, stored, taken_line, line_setting, lines_taken, file_taken, last, in_sheets, is_asked, missing_by, whole_sheets, cell_taken}
use Rattle.cell_file.specs.Records.{ready_with, ten_at, sheet_at}

-- a place that is not given now was not given before, and has the number from before
record Kept (k : ℕ) (old new : Settings) : Type 0 where
  places : length new.given ≡ length old.given
  before : get_or new.given k 0 ≡ 0 → slice_index old.given k ≡ 0
  value : get_or new.given k 0 ≡ 0 → slice_index_or new.values k nan ≡ slice_index_or old.values k nan

module _ (k : ℕ) where
  same : (st : Settings) → Kept k st st
  same st = record { places = refl; before = λ e. e; value = λ e. refl }

  same_numbers : (st : Settings) (line fault place : ℕ) → Kept k st (faulted st line fault place)
  unfolding faulted
  same_numbers st line fault place = record { places = refl; before = λ e. e; value = λ e. refl }

  then : (a b c : Settings) → Kept k a b → Kept k b c → Kept k a c
  then a b c p q =
      record { places = q.places ∙ p.places; before = λ e. p.before (q.before e); value = λ e. q.value e ∙ p.value (q.before e) }

  by_given : (st : Settings) (n : ℕ) (a : Setting) → k < length st.given → Kept k st (given st (suc n) a)
  unfolding given
  by_given st n a h = go (k == a.place) refl
    where
      go : (t : Bool) → (k == a.place) ≡ t → Kept k st (given st (suc n) a)
      go true e =
          let q : get_or (slice_set st.given a.place (suc n)) k 0 ≡ suc n = rw (← eqb-true k a.place e) (get_or-set_same st.given k (suc n) 0 h) in
          record { places = length-set st.given a.place (suc n); before = λ z. absurd (omega arith); value = λ z. absurd (omega arith) }
      go false e = record {
        places = length-set st.given a.place (suc n);
        before = λ z. rw (get_or-set_other st.given a.place k (suc n) 0 (eqb-false k a.place e)) at z;
        value = λ z. get_or-set_other st.values a.place k a.value nan (eqb-false k a.place e);
      }

  by_stored : (st : Settings) (n : ℕ) (a : Setting) → k < length st.given → Kept k st (stored st (suc n) a)
  unfolding stored
  by_stored st n a h = go (a.fault == 0) (nat_lt a.place none) (slice_index st.given a.place == 0)
    where
      go :
          (t u v : Bool)
          → Kept k st (cond t (cond u (cond v (given st (suc n) a) (faulted st (suc n) given_twice a.place)) st) (faulted st (suc n) a.fault a.place))
      go false u v = same_numbers st (suc n) a.fault a.place
      go true false v = same st
      go true true false = same_numbers st (suc n) given_twice a.place
      go true true true = by_given st n a h

  by_line : (st : Settings) (n : ℕ) (s : List ℕ) → k < length st.given → Kept k st (taken_line st (suc n) s)
  unfolding taken_line
  by_line st n s h = go (st.fault == 0)
    where
      go : (t : Bool) → Kept k st (cond t (stored st (suc n) (line_setting s)) st)
      go true = by_stored st n (line_setting s) h
      go false = same st

  by_lines : (ls : List (List ℕ)) (st : Settings) (n : ℕ) → k < length st.given → Kept k st (lines_taken st (suc n) ls)
  unfolding lines_taken
  by_lines [] st n h = same st
  by_lines (l ∷ ls) st n h =
      let first = by_line st n l h in
      then st (taken_line st (suc n) l) (lines_taken (taken_line st (suc n) l) (suc (suc n)) ls) first (by_lines ls (taken_line st (suc n) l) (suc n) (rw first.places h))

  by_file : (st : Settings) (s : List ℕ) → k < length st.given → Kept k st (file_taken st s)
  unfolding file_taken
  by_file st s h = go (nat_le (length s) 4095)
    where
      go : (t : Bool) → Kept k st (cond t (lines_taken st 1 (lines_of (after_mark s))) (faulted st 0 long_file none))
      go true = by_lines (lines_of (after_mark s)) st 0 h
      go false = same_numbers st 0 long_file none

  by_whole : (st : Settings) → Kept k st (whole_sheets st)
  unfolding whole_sheets
  by_whole st = go (st.fault == 0 && nat_lt (missing_by in_sheets st.given) none)
    where
      go : (t : Bool) → Kept k st (cond t (faulted st 0 not_given (missing_by in_sheets st.given)) st)
      go true = same_numbers st 0 not_given (missing_by in_sheets st.given)
      go false = same st

  -- whatever the file, a number that it does not give is the one that it starts from
  pub not-given-keeps :
      (st : Settings) (s : List ℕ) → k < length st.given → slice_index (cell_taken st s).given k ≡ 0 → slice_index_or (cell_taken st s).values k nan ≡ slice_index_or st.values k nan
  unfolding cell_taken
  not-given-keeps st s h = (then st (file_taken st s) (whole_sheets (file_taken st s)) (by_file st s h) (by_whole (file_taken st s))).value

-- ---- t_ref of the anode, or of the cathode
abbrev pub reference_place : Bool → ℕ
reference_place of_cathode = cond of_cathode 31 20

pub reference_names : (place_of (bytes_of "anode.t_ref") ≡ reference_place false) × (place_of (bytes_of "cathode.t_ref") ≡ reference_place true)
unfolding place_of place_by is_named letter_of bytes_of all_below starts_with
reference_names = (refl, refl)

-- what a cell file leaves of the ready cell
abbrev pub from_file : List ℕ → Settings
from_file s = cell_taken (fresh_settings (ready_with nmc_cathode) 0) s

-- whatever the file, the sheet of an electrode whose t_ref it does not give has 298.15 K
pub reference-kept :
    (of_cathode : Bool) (s : List ℕ) → slice_index (from_file s).given (reference_place of_cathode) ≡ 0
    → (sheet_at (from_file s).values (cond of_cathode cathode anode)).t_ref ≡ «298·15»
unfolding ready_with nmc_cathode graphite_anode sheet_at sheet_of ten_at
reference-kept true s = not-given-keeps 31 (fresh_settings (ready_with nmc_cathode) 0) s (lit< tt)
reference-kept false s = not-given-keeps 20 (fresh_settings (ready_with nmc_cathode) 0) s (lit< tt)

-- a number that is missing is one that is asked for
missing_asked : (k : ℕ) (g : List ℕ) → missing_by k g < none → is_asked (missing_by k g) ≡ true
unfolding missing_by
missing_asked zero g h = absurd (omega arith)
missing_asked (suc k) g h = go (is_asked (last - k)) refl (slice_index g (last - k) == 0) (missing_asked k g) h
  where
    go :
        (t : Bool) → is_asked (last - k) ≡ t → (u : Bool) {m : ℕ} → (m < none → is_asked m ≡ true) → cond (t && u) (last - k) m < none
        → is_asked (cond (t && u) (last - k) m) ≡ true
    go true e true f h = e
    go true e false f h = f h
    go false e u f h = f h

-- so it is no t_ref
pub reference_not_missing : (of_cathode : Bool) (k : ℕ) (g : List ℕ) → missing_by k g ≢ reference_place of_cathode
reference_not_missing true k g e = false≢true (rw e at (missing_asked k g (rw e (lit< tt))))
reference_not_missing false k g e = false≢true (rw e at (missing_asked k g (rw e (lit< tt))))

-- every number of both sheets that is asked for is given
abbrev pub GivesAsked : List ℕ → Type 0
GivesAsked g = (p : ℕ) → anode ≤ p → p < none → is_asked p ≡ true → slice_index g p ≢ 0

none_missing : (g : List ℕ) → GivesAsked g → (k : ℕ) → k ≤ in_sheets → missing_by k g ≡ none
unfolding missing_by
none_missing g all zero h = refl
none_missing g all (suc k) h = go (is_asked (last - k)) refl (slice_index g (last - k) == 0) refl (none_missing g all k (omega arith))
  where
    go : (t : Bool) → is_asked (last - k) ≡ t → (u : Bool) → (slice_index g (last - k) == 0) ≡ u → {m : ℕ} → m ≡ none → cond (t && u) (last - k) m ≡ none
    go true e true q f = absurd (all (last - k) (omega arith) (omega arith) e (eqb-true (slice_index g (last - k)) 0 q))
    go true e false q f = f
    go false e u q f = f

-- a file that gives all but t_ref is taken as it stands
pub reference_left_out : (st : Settings) (s : List ℕ) → GivesAsked (file_taken st s).given → cell_taken st s ≡ file_taken st s
unfolding cell_taken whole_sheets
reference_left_out st s all = rw (none_missing (file_taken st s).given all in_sheets (lit≤ tt), and-false ((file_taken st s).fault == 0))
