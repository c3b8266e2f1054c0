-- Runs of a monitor, and what the law says of them.
use Rattle.std.proofs.Common.{◌≡◌, ℕ, true, List, [], ◌∷◌, ◌++◌, length, take, drop, Decides, fold, sym, ap, ◌∙◌, le_refl, take-append-drop, take_all}
use Rattle.std.proofs.lemmas.List.Sums.{fold-append}
use Rattle.events.specs.declared.event.Action.{Action}
use Rattle.monitor.specs.Meaning.{Meaning, ran, Violates}

-- one more action at the end
pub ran_push : (m : Meaning) (xs : List Action) (x : Action) → ran m (xs ++ (x ∷ [])) ≡ m.step (ran m xs) x
ran_push m xs x = fold-append m.step m.start xs (x ∷ [])

pub bad_after : (m : Meaning) (xs : List Action) (c : ℕ) → m.bad c ≡ true → m.bad (fold m.step c xs) ≡ true
bad_after m [] c h = h
bad_after m (x ∷ xs) c h = bad_after m xs (m.step c x) (m.stays c x h)

pub bad_at_end : (m : Meaning) (xs : List Action) (k : ℕ) → m.bad (ran m (take k xs)) ≡ true → m.bad (ran m xs) ≡ true
bad_at_end m xs k h =
    let whole : ran m xs ≡ fold m.step (ran m (take k xs)) (drop k xs) =
    ap (ran m) (sym (take-append-drop k xs)) ∙ fold-append m.step m.start (take k xs) (drop k xs) in
    ap m.bad whole ∙ bad_after m (drop k xs) (ran m (take k xs)) h

-- the end code tells
pub end_tells : (m : Meaning) (actions : List Action) → Decides (m.bad (ran m actions)) (Violates m actions)
end_tells m actions = (
  λ h. (length actions, le_refl (length actions), ap (λ xs. m.bad (ran m xs)) (take_all _ actions (le_refl (length actions))) ∙ h),
  λ v. bad_at_end m actions v.0 v.2,
)
