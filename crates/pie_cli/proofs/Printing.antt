-- What a loop that prints a text keeps.
use Rattle.std.proofs.Common.{◌≡◌, ℕ, ◌+◌, ◌≤◌, List, ◌++◌, length, take, drop, take-add, sym, ap, ◌∙◌, subst, append_assoc}
use Rattle.std.specs.Prelude.{Option, None, Some, IfSome}

-- so many bytes of the text are done, the output gained just these, and no call failed
pub record Printing {S : Type 0} (held : S → Option (List ℕ)) (faults : S → ℕ) (IsInfallible : S
    → Type 0) (old new : S) (text : List ℕ) (done : ℕ) : Type 0 where
  pub inside : done ≤ length text
  pub gained : IfSome (held old) (λ bytes. held new ≡ Some (bytes ++ take done text))
  pub steady : faults new ≡ faults old
  pub infallible : IsInfallible old → IsInfallible new

-- one more piece of the text
pub gained_more : (before middle after : Option (List ℕ)) (text : List ℕ) (done n : ℕ)
    → IfSome before (λ bytes. middle ≡ Some (bytes ++ take done text)) → IfSome middle (λ bytes. after ≡ Some (bytes ++ take n (drop done text)))
    → IfSome before (λ bytes. after ≡ Some (bytes ++ take (done + n) text))
gained_more None middle after text done n first more = tt
gained_more (Some bytes) middle after text done n first more =
    let now : after ≡ Some ((bytes ++ take done text) ++ take n (drop done text)) = subst (λ m. IfSome m (λ b. after
    ≡ Some (b ++ take n (drop done text)))) first more in
    now ∙ ap Some (append_assoc bytes (take done text) (take n (drop done text)) ∙ ap (λ t. bytes ++ t) (sym (take-add done n text)))
