-- What a loop keeps that prints a text in pieces.
use Rattle.std.proofs.Common.{◌≡◌, refl, ℕ, List, [], ◌++◌, length, take, drop, sym, ap, ◌∙◌, subst, append_assoc, append-nil}
use Rattle.std.specs.Prelude.{Option, None, Some, IfSome}
use lib.ListN.{take-append-drop}
use Rattle.pie_inspect_cli.specs.Checked.{Gains}

-- the output gained the text up to what is left of it
abbrev pub Printed : Option (List ℕ) → Option (List ℕ) → List ℕ → List ℕ → Type 0
Printed before after text left = IfSome before (λ bytes. (front : List ℕ) × (after ≡ Some (bytes ++ front)) × (front ++ left ≡ text))

pub begun : (before : Option (List ℕ)) (text : List ℕ) → Printed before before text text
begun None text = tt
begun (Some bytes) text = ([], ap Some (sym (append-nil bytes)), refl)

pub more : (before middle after : Option (List ℕ)) (text left : List ℕ) (n : ℕ)
    → Printed before middle text left → IfSome middle (λ bytes. after ≡ Some (bytes ++ take n left)) → Printed before after text (drop n left)
more None middle after text left n printed put = tt
more (Some bytes) middle after text left n printed put =
    let now : after ≡ Some ((bytes ++ printed.0) ++ take n left) = subst (λ m. IfSome m (λ b. after ≡ Some (b ++ take n left))) printed.1 put in (
      printed.0 ++ take n left,
      now ∙ ap Some (append_assoc bytes printed.0 (take n left)),
      append_assoc printed.0 (take n left) (drop n left) ∙ ap (λ l. printed.0 ++ l) (take-append-drop n left) ∙ printed.2,
    )

pub ended : (before after : Option (List ℕ)) (text : List ℕ) → Printed before after text [] → Gains before after text
ended None after text printed = tt
ended (Some bytes) after text printed = printed.1 ∙ ap (λ l. Some (bytes ++ l)) (sym (append-nil printed.0) ∙ printed.2)
