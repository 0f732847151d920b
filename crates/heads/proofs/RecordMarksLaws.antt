-- The marks of a record, two bits a head: what was put together is read again, and the record that a command makes is
-- the one that stands for what it replaced. Assumes nothing.
use mathlib.Core.Path.{◌≡◌, refl, sym, ◌∙◌}
use mathlib.Core.Bool.{Bool, true, false, ◌&&◌, cond}
use mathlib.Core.List.{List}
use Prim.Native.Nat.{ℕ, ◌*◌, ◌≤◌, ◌<◌}
use native.Mathlib.Omega.{arith}
use native.Mathlib.Nat.{zero-lt-suc}
use lib.Dec.{leb}
use lib.ListN.{get_or}
use Rattle.base.specs.Bounded.{sum_below}
use Rattle.base.specs.Digits.{from_digits, digit}
use Rattle.base.proofs.BoolLaws.{cond_where}
use Rattle.base.proofs.DigitLaws.{digits_same, digit_of}
use Rattle.base.proofs.ListLaws.{length_tabulate, get_d_tabulate, tabulate_is}
use Rattle.instance.specs.Limits.{max_vertices, free, banned}
use Rattle.instance.specs.Marks.{mark_number}
use Rattle.instance.specs.Instance.{Instance, mark, is_arc}
use Rattle.instance.specs.Cuts.{inside}
use Rattle.instance.specs.declared.Mark.{Mark}
use Rattle.instance.specs.declared.Mark.TheVariants.{Free, Pinned, Banned}
use Rattle.commands.specs.Heads.{heads_of, marks_of, put_marks}
use Rattle.commands.specs.Valid.{head_ok}
use Rattle.commands.proofs.HeadsLaws.{put_same, inside_heads}
use Rattle.commands.proofs.AnsweredLaws.{mark_low}
use Rattle.heads.specs.RecordMarks.{record_marks}

-- BY HEAD
module _ (c k : ℕ) where
  pub record_marks_at : (h : ℕ) → h < max_vertices → get_or (record_marks c k) h free ≡ cond (inside c h) (digit 4 k h) free
  unfolding record_marks
  record_marks_at h l = get_d_tabulate max_vertices (λ v. cond (inside c v) (digit 4 k v) free) h free l

  -- marks put from the digits are those of the record
  pub record_marks_put : (t : ℕ) (ms : List ℕ) → put_marks t (inside c) (digit 4 k) ms ≡ put_marks t (inside c) (λ h. get_or (record_marks c k) h free) ms
  record_marks_put t ms = put_same t (inside c) (inside c) (digit 4 k) (λ h. get_or (record_marks c k) h free) ms (λ h _. refl) (λ h l e. sym (record_marks_at h l ∙ rw e))

  -- a head of the record judged by its digit
  pub record_marks_ok : (s : Instance) (t h : ℕ) → h < max_vertices → head_ok s t c (digit 4 k h) h ≡ head_ok s t c (get_or (record_marks c k) h free) h
  unfolding head_ok
  record_marks_ok s t h l =
      cond_where (inside c h) (is_arc s t h && leb (digit 4 k h) banned) (is_arc s t h && leb (get_or (record_marks c k) h free) banned) true
      (λ e. rw (record_marks_at h l, e))

-- records that agree at the heads of the set stand for the same (DECISIONS 63)
pub record_marks_same : (c j k : ℕ) → ((h : ℕ) → h < max_vertices → inside c h ≡ true → digit 4 j h ≡ digit 4 k h) → record_marks c j ≡ record_marks c k
unfolding record_marks
record_marks_same c j k e =
    tabulate_is max_vertices (record_marks c j) (λ h. cond (inside c h) (digit 4 k h) free) free (length_tabulate max_vertices _)
    (λ h l. record_marks_at c j h l ∙ at (inside c h) (e h l))
  where
    at : {x y : ℕ} → (b : Bool) → (b ≡ true → x ≡ y) → cond b x free ≡ cond b y free
    at true f = f refl
    at false f = refl

-- The record that a command makes, of the heads that pass q: it stands for the marks of the model's record, and it is
-- the one that stands for them, since it has 0 at every other head.
module _ (s : Instance) (t : ℕ) (q : ℕ → Bool) (low : (h : ℕ) → h < max_vertices → q h ≡ true → mark s t h ≤ banned) where
  abbrev pub old_at : ℕ → ℕ
  old_at h = cond (inside (heads_of q) h) (mark s t h) free

  old_small : (h : ℕ) → h < max_vertices → old_at h < 4
  old_small h l = rw (inside_heads q h l) (at (q h) (low h l))
    where
      at : (b : Bool) → (b ≡ true → mark s t h ≤ banned) → cond b (mark s t h) free < 4
      at true e = omega (arith, e refl)
      at false e = omega arith

  module _ (k : ℕ) (e : k ≡ from_digits 4 max_vertices old_at) where
    digit_old : (h : ℕ) → h < max_vertices → get_or (record_marks (heads_of q) k) h free ≡ old_at h
    digit_old h l =
        record_marks_at (heads_of q) k h l ∙ rw (e, digit_of 4 max_vertices old_at (zero-lt-suc 3) old_small h l) (at (inside (heads_of q) h))
      where
        at : (b : Bool) → cond b (cond b (mark s t h) free) free ≡ cond b (mark s t h) free
        at true = refl
        at false = refl

    pub record_marks_is : record_marks (heads_of q) k ≡ marks_of s t q
    unfolding record_marks marks_of
    record_marks_is =
        tabulate_is max_vertices (record_marks (heads_of q) k) (λ h. cond (q h) (mark s t h) free) free (length_tabulate max_vertices _)
        (λ h l. digit_old h l ∙ rw (inside_heads q h l))

    pub record_marks_made : from_digits 4 max_vertices (λ h. get_or (record_marks (heads_of q) k) h free) ≡ k
    record_marks_made = digits_same 4 max_vertices (λ h. get_or (record_marks (heads_of q) k) h free) old_at digit_old ∙ sym e

-- ONE MARK AT EVERY HEAD: the mark 1 at each, which is 01 in each two bits, times the mark
abbrev pub every_head : ℕ
every_head = 6148914691236517205

each_made : (m : Mark) → every_head * mark_number m ≡ from_digits 4 max_vertices (λ h. mark_number m)
unfolding from_digits sum_below
each_made Free = refl
each_made Pinned = refl
each_made Banned = refl

pub each_digit : (m : Mark) (h : ℕ) → h < max_vertices → digit 4 (every_head * mark_number m) h ≡ mark_number m
each_digit m h l = rw (each_made m) (digit_of 4 max_vertices (λ v. mark_number m) (zero-lt-suc 3) (λ v _. omega (arith, mark_low m)) h l)
