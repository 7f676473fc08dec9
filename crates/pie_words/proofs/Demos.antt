-- Numbers that a demo may not have are those of no command.
use Rattle.std.proofs.Common.{◌≡◌, ◌≢◌, ◌<◌, ◌^◌, ℕ, true, false, List, [], ◌∷◌, length, decimal, ap, ap₂, sym, ◌∙◌, arith}
use Rattle.pie_words.specs.declared.command.Command.{Command}
use Rattle.pie_words.specs.declared.command.Command.TheVariants.{Check, Fresh, Build, Replay, Demo, Topdown, Scan, Auto, Cached}
use Rattle.pie_words.specs.Commands.{words_of, is_allowed}
use Rattle.pie_words.proofs.Apart.{second, third, same_number, seed_small, size_small}

abbrev many : List (List ℕ) → ℕ
many words = length words

pub no_demo : (first second_word third_word : List ℕ) (seed size : ℕ) → second_word ≡ decimal seed → seed < 2 ^ 64 → third_word ≡ decimal size → size < 2 ^ 64
    → is_allowed (Demo seed size) ≢ true → (command : Command) → is_allowed command ≡ true → (first ∷ second_word ∷ third_word ∷ []) ≢ words_of command
no_demo first a b seed size is small size_is fits bad Check allowed same = let h : ◌≡◌ {A = ℕ} 3 1 = ap many same in absurd (omega arith)
no_demo first a b seed size is small size_is fits bad (Fresh false) allowed same = let h : ◌≡◌ {A = ℕ} 3 1 = ap many same in absurd (omega arith)
no_demo first a b seed size is small size_is fits bad (Fresh true) allowed same = let h : ◌≡◌ {A = ℕ} 3 2 = ap many same in absurd (omega arith)
no_demo first a b seed size is small size_is fits bad (Build false) allowed same = let h : ◌≡◌ {A = ℕ} 3 1 = ap many same in absurd (omega arith)
no_demo first a b seed size is small size_is fits bad (Build true) allowed same = let h : ◌≡◌ {A = ℕ} 3 2 = ap many same in absurd (omega arith)
no_demo first a b seed size is small size_is fits bad (Replay false) allowed same = let h : ◌≡◌ {A = ℕ} 3 1 = ap many same in absurd (omega arith)
no_demo first a b seed size is small size_is fits bad (Replay true) allowed same = let h : ◌≡◌ {A = ℕ} 3 2 = ap many same in absurd (omega arith)
no_demo first a b seed size is small size_is fits bad (Topdown false) allowed same = let h : ◌≡◌ {A = ℕ} 3 1 = ap many same in absurd (omega arith)
no_demo first a b seed size is small size_is fits bad (Topdown true) allowed same = let h : ◌≡◌ {A = ℕ} 3 2 = ap many same in absurd (omega arith)
no_demo first a b seed size is small size_is fits bad Scan allowed same = let h : ◌≡◌ {A = ℕ} 3 1 = ap many same in absurd (omega arith)
no_demo first a b seed size is small size_is fits bad Auto allowed same = let h : ◌≡◌ {A = ℕ} 3 1 = ap many same in absurd (omega arith)
no_demo first a b seed size is small size_is fits bad Cached allowed same = let h : ◌≡◌ {A = ℕ} 3 1 = ap many same in absurd (omega arith)
no_demo first a b seed size is small size_is fits bad (Demo other others) allowed same =
    let seeds = same_number other seed (seed_small other others allowed) small (sym (ap second same) ∙ is) in
    let sizes = same_number others size (size_small other others allowed) fits (sym (ap third same) ∙ size_is) in
    bad (sym (ap is_allowed (ap₂ Demo seeds sizes)) ∙ allowed)
