-- What two reads took of an input one could have taken.
use Rattle.std.proofs.Common.{ℕ, List, [], ◌++◌, sym, ◌∙◌, ap}
use Rattle.std.specs.Prelude.{None, Some}
use Rattle.std.specs.declared.option.Option.{Option}
use Rattle.std.proofs.lemmas.List.{append_assoc}
use Rattle.reading.specs.Inputs.{ReadsOn}

pub read_twice : (a b c : Option (List ℕ)) → ReadsOn a b → ReadsOn b c → ReadsOn a c
read_twice None b c p q = ([], tt)
read_twice (Some xs) None c p q = elim p.1 [ ]
read_twice (Some xs) (Some ys) None p q = elim q.1 [ ]
read_twice (Some xs) (Some ys) (Some zs) p q = (p.0 ++ q.0, p.1 ∙ (ap (λ l. p.0 ++ l) q.1 ∙ sym (append_assoc p.0 q.0 zs)))
