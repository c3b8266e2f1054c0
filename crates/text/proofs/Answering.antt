-- From what is built to what is answered.
use Rattle.std.proofs.Common.{ℕ, ◌≤◌, List, length, Ok, Err, Result, sym, ap, subst}
use Rattle.text.specs.declared.recording.Recording.{Recording}
use Rattle.text.specs.declared.fault.TextFault.{TextFault}
use Rattle.text.specs.declared.fault.ReadFault.{ReadFault}
use Rattle.text.specs.declared.fault.ReadFault.TheVariants.{Text, Memory}
use Rattle.text.specs.Building.{Built}
use Rattle.text.specs.Places.{byte_place}
use Rattle.text.specs.Reading.{Answers}

pub answers_built : (t : List ℕ) (q : Result Recording ReadFault) → length t ≤ 60000 → Built t q → Answers t q
answers_built t (Ok rec) h b = (b.0, (h, b.1, b.2, b.3), b.4)
answers_built t (Err (Text f)) h b =
    let out = b.3 in
    subst (λ (x : TextFault). Answers t (Err (Text x))) (sym out.2)
    (out.0, (h, (b.0, b.1, b.2, out.1)), ap (λ (w : List ℕ). byte_place w out.0) (sym b.2))
answers_built t (Err Memory) h b = tt
