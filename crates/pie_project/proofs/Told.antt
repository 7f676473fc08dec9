-- Facts of what is told, one from others.
use Rattle.std.specs.Prelude.{Option, None, Some, IfSome}

pub told : {D : Type 0} (o : Option D) (P Q : D → Type 0) → ((d : D) → P d → Q d) → IfSome o P → IfSome o Q
told None P Q f p = tt
told (Some d) P Q f p = f d p

pub told_both : {D : Type 0} (o : Option D) (P Q R : D → Type 0) → ((d : D) → P d → Q d → R d) → IfSome o P → IfSome o Q → IfSome o R
told_both None P Q R f p q = tt
told_both (Some d) P Q R f p q = f d p q
