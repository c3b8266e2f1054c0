use Rattle.order.proofs.laws.noted_lists.Goals as goal
use Rattle.order.proofs.Noting.{allowed, sound_of, within_of, decides_noted, opened_small}
use Rattle.order.proofs.Renoted.{not_refused_lem, noted_sound}

pub returns : goal.returns
returns c = record {
  sound = λ o es. ((λ n. (sound_of o es n, within_of o es n)), noted_sound o es);
  allowed = λ o es a. (allowed o es a, not_refused_lem o es a);
  decided = decides_noted;
  opened = opened_small;
}
