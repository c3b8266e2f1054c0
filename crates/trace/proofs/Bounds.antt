-- How much an opening has at most, and that its rows change nothing else of it.
use Rattle.std.proofs.Common.{◌≡◌, ℕ, ◌≤◌, length, Ok, Err, Result, refl, arith}
use Rattle.events.specs.declared.refusal.OpenRefusal.{OpenRefusal}
use Rattle.events.specs.Noting.{is_void}
use Rattle.trace.specs.declared.setting.Setting.{Setting}
use Rattle.rows.specs.Listed.{lent}
use Rattle.trace.specs.declared.Trace.{Trace}
use Rattle.trace.specs.Meaning.{opening_of}
use Rattle.trace.specs.Settings.{opening_with}

pub few_threads : (x : Result Setting OpenRefusal) (n : ℕ) → (opening_with x n).threads ≤ 8
few_threads (Ok g) n = g.few
few_threads (Err why) n = omega arith

pub few_starts : (x : Result Setting OpenRefusal) (n : ℕ) → length (opening_with x n).starts ≤ 32
few_starts (Ok g) n = g.known
few_starts (Err why) n = omega arith

pub opening_few : (t : Trace) → ((opening_of t).threads ≤ 8) × (length (opening_of t).starts ≤ 32)
opening_few t = let all = length (lent t.rows) in (few_threads t.state.setting all, few_starts t.state.setting all)

pub same_void : (x : Result Setting OpenRefusal) (n m : ℕ) → is_void (opening_with x n) ≡ is_void (opening_with x m)
same_void (Ok g) n m = refl
same_void (Err why) n m = refl

pub same_threads : (x : Result Setting OpenRefusal) (n m : ℕ) → (opening_with x n).threads ≡ (opening_with x m).threads
same_threads (Ok g) n m = refl
same_threads (Err why) n m = refl

pub same_starts : (x : Result Setting OpenRefusal) (n m : ℕ) → (opening_with x n).starts ≡ (opening_with x m).starts
same_starts (Ok g) n m = refl
same_starts (Err why) n m = refl
