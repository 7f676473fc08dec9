-- Words ask for one command at most.
use Rattle.std.proofs.Common.{◌≡◌, ◌==◌, ℕ, ◌+◌, ◌*◌, ◌<◌, ◌^◌, Bool, true, false, cond, List, [], ◌∷◌, Option, None, Some, length, decimal, refl, sym, ap, ap₂, ◌∙◌, arith, rules}
use Rattle.std.proofs.lemmas.Fmt.{decimal_is_IsNumeral}
use Rattle.std.specs.Str.Parse.{digits_value}
use Rattle.pie_words.specs.declared.command.Command.{Command}
use Rattle.pie_words.specs.declared.command.Command.TheVariants.{Check, Fresh, Build, Replay, Demo, Topdown, Scan, Auto, Cached}
use Rattle.std.proofs.lemmas.Bool.{false≢true}
use Rattle.pie_words.specs.Commands.{words_of, is_allowed}
use Rattle.pie_words.specs.inner.Commands.{is_plain}

-- a number that tells the first words apart, or 0
abbrev mark : List (List ℕ) → ℕ
mark [] = 0
mark ([] ∷ words) = 0
mark ((b ∷ bytes) ∷ words) = 10 * b + length bytes

abbrev pub second : List (List ℕ) → List ℕ
second [] = []
second (a ∷ []) = []
second (a ∷ b ∷ words) = b

abbrev pub third : List (List ℕ) → List ℕ
third [] = []
third (a ∷ []) = []
third (a ∷ b ∷ []) = []
third (a ∷ b ∷ c ∷ words) = c

-- digits say one number
pub same_number : (n m : ℕ) → n < 2 ^ 64 → m < 2 ^ 64 → decimal n ≡ decimal m → n ≡ m
same_number n m h k is = sym (decimal_is_IsNumeral n h).1 ∙ (ap (digits_value 10) is ∙ (decimal_is_IsNumeral m k).1)

pub seed_small : (seed size : ℕ) → is_allowed (Demo seed size) ≡ true → seed < 2 ^ 64
seed_small seed size is = grind (arith, rules)

pub size_small : (seed size : ℕ) → is_allowed (Demo seed size) ≡ true → size < 2 ^ 64
size_small seed size is = grind (arith, rules)

-- the command without numbers that has this mark and so many words, if there is one
abbrev plain_with : ℕ → ℕ → Option Command
plain_with b many = cond (b == 994) (Some Check)
    (cond (b == 1024) (Some (Fresh (many == 2)))
    (cond (b == 984) (Some (Build (many == 2)))
    (cond (b == 1145) (Some (Replay (many == 2)))
    (cond (b == 1166) (Some (Topdown (many == 2)))
    (cond (b == 1153) (Some Scan)
    (cond (b == 995) (Some Cached)
    (cond (b == 973) (Some Auto) None)))))))

abbrev plain_in : List (List ℕ) → Option Command
plain_in words = plain_with (mark words) (length words)

-- a command without numbers is found by its words
abbrev if_plain : Command → Option Command
if_plain (Demo seed size) = None
if_plain Check = Some Check
if_plain (Fresh json) = Some (Fresh json)
if_plain (Build json) = Some (Build json)
if_plain (Replay json) = Some (Replay json)
if_plain (Topdown json) = Some (Topdown json)
if_plain Scan = Some Scan
if_plain Auto = Some Auto
if_plain Cached = Some Cached

found_by_words : (c : Command) → plain_in (words_of c) ≡ if_plain c
found_by_words Check = refl
found_by_words (Fresh false) = refl
found_by_words (Fresh true) = refl
found_by_words (Build false) = refl
found_by_words (Build true) = refl
found_by_words (Replay false) = refl
found_by_words (Replay true) = refl
found_by_words (Demo seed size) = refl
found_by_words (Topdown false) = refl
found_by_words (Topdown true) = refl
found_by_words Scan = refl
found_by_words Auto = refl
found_by_words Cached = refl

same_found : (c e : Command) → words_of c ≡ words_of e → if_plain c ≡ if_plain e
same_found c e is = sym (found_by_words c) ∙ (ap plain_in is ∙ found_by_words e)

-- whether one was found
abbrev has_one : Option Command → Bool
has_one None = false
has_one (Some c) = true

found_plain : (c : Command) → has_one (if_plain c) ≡ is_plain c
found_plain Check = refl
found_plain (Fresh json) = refl
found_plain (Build json) = refl
found_plain (Replay json) = refl
found_plain (Topdown json) = refl
found_plain Scan = refl
found_plain Auto = refl
found_plain Cached = refl
found_plain (Demo seed size) = refl

plain_alike : (c e : Command) → words_of c ≡ words_of e → is_plain c ≡ is_plain e
plain_alike c e is = sym (found_plain c) ∙ (ap has_one (same_found c e is) ∙ found_plain e)

-- the one that was found, else another
abbrev found_or : Command → Option Command → Command
found_or other None = other
found_or other (Some c) = c

plain_is : (other c : Command) → is_plain c ≡ true → found_or other (if_plain c) ≡ c
plain_is other Check plain = refl
plain_is other (Fresh json) plain = refl
plain_is other (Build json) plain = refl
plain_is other (Replay json) plain = refl
plain_is other (Topdown json) plain = refl
plain_is other Scan plain = refl
plain_is other Auto plain = refl
plain_is other Cached plain = refl
plain_is other (Demo seed size) plain = absurd (false≢true plain)

same_plain : (c e : Command) → is_plain c ≡ true → words_of c ≡ words_of e → c ≡ e
same_plain c e plain is =
    sym (plain_is c c plain) ∙ (ap (found_or c) (same_found c e is) ∙ plain_is c e (sym (plain_alike c e is) ∙ plain))

pub same_command : (c e : Command) → is_allowed c ≡ true → is_allowed e ≡ true → words_of c ≡ words_of e → c ≡ e
same_command Check e may also is = same_plain Check e refl is
same_command (Fresh json) e may also is = same_plain (Fresh json) e refl is
same_command (Build json) e may also is = same_plain (Build json) e refl is
same_command (Replay json) e may also is = same_plain (Replay json) e refl is
same_command (Topdown json) e may also is = same_plain (Topdown json) e refl is
same_command Scan e may also is = same_plain Scan e refl is
same_command Auto e may also is = same_plain Auto e refl is
same_command Cached e may also is = same_plain Cached e refl is
same_command (Demo seed size) Check may also is = sym (same_plain Check (Demo seed size) refl (sym is))
same_command (Demo seed size) (Fresh json) may also is = sym (same_plain (Fresh json) (Demo seed size) refl (sym is))
same_command (Demo seed size) (Build json) may also is = sym (same_plain (Build json) (Demo seed size) refl (sym is))
same_command (Demo seed size) (Replay json) may also is = sym (same_plain (Replay json) (Demo seed size) refl (sym is))
same_command (Demo seed size) (Topdown json) may also is = sym (same_plain (Topdown json) (Demo seed size) refl (sym is))
same_command (Demo seed size) Scan may also is = sym (same_plain Scan (Demo seed size) refl (sym is))
same_command (Demo seed size) Auto may also is = sym (same_plain Auto (Demo seed size) refl (sym is))
same_command (Demo seed size) Cached may also is = sym (same_plain Cached (Demo seed size) refl (sym is))
same_command (Demo seed size) (Demo other many) may also is = ap₂ Demo (same_number seed other (seed_small seed size may) (seed_small other many also) (ap second is))
    (same_number size many (size_small seed size may) (size_small other many also) (ap third is))
