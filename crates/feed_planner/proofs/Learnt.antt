-- What a caller learns of the exported presses and looks, from the functions' own contracts (`Learnt`): so a theorem
-- that cites it is about these functions and no others. Assumes nothing.
use mathlib.Core.List.{List}
use Prim.Native.Nat.{ℕ}
use contract.Lifetimes.{Lfts}
use borrow.Fn.Kinds.{Dens, ended_of}
use denote.Triple.Clauses.{AtExit}
use Rattle.instance.specs.declared.Mark.TheVariants.{Free, Pinned, Banned}
use Rattle.commands.specs.Commands.{Command, set_mark, set_marks, set_budget, undo}
use Rattle.planner.specs.Looking.{Buffers, buffers}
use Rattle.feed_planner.specs.Presses.{Presses}
use Rattle.feed_planner.specs.PressLists.{PressesList}
use Rattle.feed_planner.specs.Words.{Words, words}
use Rattle.feed_planner.specs.Looking.{LooksAtCard}
use Rattle.feed_planner.proofs.presses.feed_pin.Reads as pin-reads
use Rattle.feed_planner.proofs.presses.feed_pin.Kinds as pin-kinds
use Rattle.feed_planner.proofs.presses.feed_ban.Reads as ban-reads
use Rattle.feed_planner.proofs.presses.feed_ban.Kinds as ban-kinds
use Rattle.feed_planner.proofs.presses.feed_clear.Reads as clear_reads
use Rattle.feed_planner.proofs.presses.feed_clear.Kinds as clear-kinds
use Rattle.feed_planner.proofs.presses.feed_pin_group.Reads as pin-group-reads
use Rattle.feed_planner.proofs.presses.feed_pin_group.Kinds as pin-group-kinds
use Rattle.feed_planner.proofs.presses.feed_ban_group.Reads as ban-group-reads
use Rattle.feed_planner.proofs.presses.feed_ban_group.Kinds as ban-group-kinds
use Rattle.feed_planner.proofs.presses.feed_clear_group.Reads as clear-group-reads
use Rattle.feed_planner.proofs.presses.feed_clear_group.Kinds as clear-group-kinds
use Rattle.feed_planner.proofs.presses.feed_set_budget.Reads as set-budget-reads
use Rattle.feed_planner.proofs.presses.feed_set_budget.Kinds as set-budget-kinds
use Rattle.feed_planner.proofs.presses.feed_take_back.Reads as take-back-reads
use Rattle.feed_planner.proofs.presses.feed_take_back.Kinds as take-back-kinds
use Rattle.feed_planner.proofs.press_lists.feed_press_list.Reads as press-list-reads
use Rattle.feed_planner.proofs.press_lists.feed_press_list.Kinds as press-list-kinds
use Rattle.feed_planner.proofs.looking.feed_look.Reads as look-reads
use Rattle.feed_planner.proofs.looking.feed_look.Kinds as look-kinds

-- an exported function made the press c on a card
pub data PressedBy : (card : List ℕ) → Command → (out out' : List ℕ) → (size size' answer : ℕ) → Type 0 where
  by_pin :
      (κs : Lfts 3) (a : Dens κs pin-kinds.ps) (r : ℕ) (e : AtExit (ended_of 3 pin-kinds.ps pin-kinds.r) κs) → pin-reads.Learnt κs a r e →
      PressedBy a.0.now (set_mark Pinned a.1.0 a.1.1.0) a.1.1.1.0.now e.1.1.1.0.now a.1.1.1.1.0.now e.1.1.1.1.0.now r
  by_ban :
      (κs : Lfts 3) (a : Dens κs ban-kinds.ps) (r : ℕ) (e : AtExit (ended_of 3 ban-kinds.ps ban-kinds.r) κs) → ban-reads.Learnt κs a r e →
      PressedBy a.0.now (set_mark Banned a.1.0 a.1.1.0) a.1.1.1.0.now e.1.1.1.0.now a.1.1.1.1.0.now e.1.1.1.1.0.now r
  by_clear :
      (κs : Lfts 3) (a : Dens κs clear-kinds.ps) (r : ℕ) (e : AtExit (ended_of 3 clear-kinds.ps clear-kinds.r) κs) → clear_reads.Learnt κs a r e →
      PressedBy a.0.now (set_mark Free a.1.0 a.1.1.0) a.1.1.1.0.now e.1.1.1.0.now a.1.1.1.1.0.now e.1.1.1.1.0.now r
  by_pin_group :
      (κs : Lfts 3) (a : Dens κs pin-group-kinds.ps) (r : ℕ) (e : AtExit (ended_of 3 pin-group-kinds.ps pin-group-kinds.r) κs) → pin-group-reads.Learnt κs a r e →
      PressedBy a.0.now (set_marks Pinned a.1.0 a.1.1.0) a.1.1.1.0.now e.1.1.1.0.now a.1.1.1.1.0.now e.1.1.1.1.0.now r
  by_ban_group :
      (κs : Lfts 3) (a : Dens κs ban-group-kinds.ps) (r : ℕ) (e : AtExit (ended_of 3 ban-group-kinds.ps ban-group-kinds.r) κs) → ban-group-reads.Learnt κs a r e →
      PressedBy a.0.now (set_marks Banned a.1.0 a.1.1.0) a.1.1.1.0.now e.1.1.1.0.now a.1.1.1.1.0.now e.1.1.1.1.0.now r
  by_clear_group :
      (κs : Lfts 3) (a : Dens κs clear-group-kinds.ps) (r : ℕ) (e : AtExit (ended_of 3 clear-group-kinds.ps clear-group-kinds.r) κs) → clear-group-reads.Learnt κs a r e →
      PressedBy a.0.now (set_marks Free a.1.0 a.1.1.0) a.1.1.1.0.now e.1.1.1.0.now a.1.1.1.1.0.now e.1.1.1.1.0.now r
  by_set_budget :
      (κs : Lfts 3) (a : Dens κs set-budget-kinds.ps) (r : ℕ) (e : AtExit (ended_of 3 set-budget-kinds.ps set-budget-kinds.r) κs) → set-budget-reads.Learnt κs a r e →
      PressedBy a.0.now (set_budget a.1.0) a.1.1.0.now e.1.1.0.now a.1.1.1.0.now e.1.1.1.0.now r
  by_take_back :
      (κs : Lfts 3) (a : Dens κs take-back-kinds.ps) (r : ℕ) (e : AtExit (ended_of 3 take-back-kinds.ps take-back-kinds.r) κs) → take-back-reads.Learnt κs a r e →
      PressedBy a.0.now undo a.1.0.now e.1.0.now a.1.1.0.now e.1.1.0.now r

pub pressed_by : {ws : List ℕ} {c : Command} {out out' : List ℕ} {n n' a : ℕ} → PressedBy ws c out out' n n' a → Presses ws c out out' n n' a
pressed_by (by_pin κs a r e l) = l
pressed_by (by_ban κs a r e l) = l
pressed_by (by_clear κs a r e l) = l
pressed_by (by_pin_group κs a r e l) = l
pressed_by (by_ban_group κs a r e l) = l
pressed_by (by_clear_group κs a r e l) = l
pressed_by (by_set_budget κs a r e l) = l
pressed_by (by_take_back κs a r e l) = l

pub data ListPressedBy : (card kinds firsts seconds out out' : List ℕ) → (size size' applied applied' stopped stopped' answer : ℕ) → Type 0 where
  by_press_list :
      (κs : Lfts 8) (a : Dens κs press-list-kinds.ps) (r : ℕ) (e : AtExit (ended_of 8 press-list-kinds.ps press-list-kinds.r) κs) → press-list-reads.Learnt κs a r e →
      ListPressedBy a.0.now a.1.0.now a.1.1.0.now a.1.1.1.0.now a.1.1.1.1.0.now e.1.1.1.1.0.now
      a.1.1.1.1.1.0.now e.1.1.1.1.1.0.now a.1.1.1.1.1.1.0.now e.1.1.1.1.1.1.0.now
      a.1.1.1.1.1.1.1.0.now e.1.1.1.1.1.1.1.0.now r

pub list_pressed_by :
    {ws ks fs gs out out' : List ℕ} {n n' p p' q q' a : ℕ} → ListPressedBy ws ks fs gs out out' n n' p p' q q' a → PressesList ws ks fs gs out out' n n' p p' q q' a
list_pressed_by (by_press_list κs a r e l) = l

pub data LookedBy : (card : List ℕ) → (old new : Buffers) → (words words' : Words) → (answer : ℕ) → Type 0 where
  by_look :
      (κs : Lfts 7) (a : Dens κs look-kinds.ps) (r : ℕ) (e : AtExit (ended_of 7 look-kinds.ps look-kinds.r) κs) → look-reads.Learnt κs a r e →
      LookedBy a.0.now (buffers a.1.0.now a.1.1.0.now a.1.1.1.0.now) (buffers e.1.0.now e.1.1.0.now e.1.1.1.0.now)
      (words a.1.1.1.1.0.now a.1.1.1.1.1.0.now a.1.1.1.1.1.1.0.now)
      (words e.1.1.1.1.0.now e.1.1.1.1.1.0.now e.1.1.1.1.1.1.0.now) r

pub looked_by : {ws : List ℕ} {old new : Buffers} {w w' : Words} {a : ℕ} → LookedBy ws old new w w' a → LooksAtCard ws old new w w' a
looked_by (by_look κs a r e l) = l
