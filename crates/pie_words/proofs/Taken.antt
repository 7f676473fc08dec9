-- What `clap` takes from the words of each command.
use Rattle.std.proofs.Common.{◌≡◌, ◌==◌, ℕ, ◌+◌, ◌*◌, length, Bool, true, false, cond, List, [], ◌∷◌, Option, Some, None, option_map, codes, refl, sym, ap, ◌∙◌, rules}
use Rattle.std.proofs.lemmas.Bool.{false≢true}
use Rattle.clap.specs.Walk.{Row, Text, one_of, rows_of}
use Rattle.clap.specs.Simple.{subcommand_of, subcommand_rows_of}
use Rattle.clap.specs.Takes.{takes}
use Rattle.std.specs.Borrow.{Bor}
use Rattle.std.specs.Box.{box_value}
use Rattle.clap.specs.Matches.{found_of, one_text, subcommand_name_of}
use Rattle.clap.specs.declared.parser.matches.ArgMatches.{ArgMatches}
use Rattle.clap.specs.declared.parser.matches.ArgMatches.TheViews.{out-ArgMatches, out-SubCommand}
use Rattle.clap.specs.declared.parser.matches.Found.{Found}
use Rattle.clap.proofs.WalkLemmas.{one_text-rows}
use Rattle.clap.proofs.OnLiterals.{clap_on_literals}
use Rattle.pie_words.specs.Commands.{words_of}
use Rattle.pie_words.specs.inner.Commands.{is_plain}
use Rattle.pie_words.specs.inner.Grammar.{commands}
use Rattle.pie_words.specs.declared.command.Command.{Command}
use Rattle.pie_words.specs.declared.command.Command.TheVariants.{Check, Fresh, Build, Replay, Demo, Topdown, Scan, Auto, Cached}

-- the name of a command
abbrev pub name_of : Command → Text
name_of Check = codes "check"
name_of (Fresh json) = codes "fresh"
name_of (Build json) = codes "build"
name_of (Replay json) = codes "replay"
name_of (Topdown json) = codes "topdown"
name_of Scan = codes "scan"
name_of Auto = codes "auto"
name_of Cached = codes "cached"
name_of (Demo seed size) = codes "demo"

-- a flag as text
abbrev pub flag_text : Bool → Text
flag_text false = codes "false"
flag_text true = codes "true"

-- the matches of a subcommand, or none
abbrev pub rows_in : Option (Text × List Row) → List Row
rows_in None = []
rows_in (Some p) = p.1

abbrev pub name_in : Option (Text × List Row) → Text
name_in None = []
name_in (Some p) = p.0

pub named : (c : Command) → is_plain c ≡ true → name_in (subcommand_of commands (words_of c)) ≡ name_of c
unfolding clap_on_literals
named Check plain = refl
named (Fresh false) plain = refl
named (Fresh true) plain = refl
named (Build false) plain = refl
named (Build true) plain = refl
named (Replay false) plain = refl
named (Replay true) plain = refl
named (Topdown false) plain = refl
named (Topdown true) plain = refl
named Scan plain = refl
named Auto plain = refl
named Cached plain = refl
named (Demo seed size) plain = absurd (false≢true plain)

pub met : (c : Command) → is_plain c ≡ true → subcommand_of commands (words_of c) ≡ Some (name_in (subcommand_of commands (words_of c)), rows_in (subcommand_of commands (words_of c)))
unfolding clap_on_literals
met Check plain = refl
met (Fresh false) plain = refl
met (Fresh true) plain = refl
met (Build false) plain = refl
met (Build true) plain = refl
met (Replay false) plain = refl
met (Replay true) plain = refl
met (Topdown false) plain = refl
met (Topdown true) plain = refl
met Scan plain = refl
met Auto plain = refl
met Cached plain = refl
met (Demo seed size) plain = absurd (false≢true plain)

-- the flag that a command may have
abbrev pub flag_of : Command → Bool
flag_of Check = false
flag_of (Fresh json) = json
flag_of (Build json) = json
flag_of (Replay json) = json
flag_of (Topdown json) = json
flag_of Scan = false
flag_of Auto = false
flag_of Cached = false
flag_of (Demo seed size) = false

-- a command with the flag
abbrev pub is_flagged : Command → Bool
is_flagged Check = false
is_flagged (Fresh json) = true
is_flagged (Build json) = true
is_flagged (Replay json) = true
is_flagged (Topdown json) = true
is_flagged Scan = false
is_flagged Auto = false
is_flagged Cached = false
is_flagged (Demo seed size) = false

pub flagged : (c : Command) → is_flagged c ≡ true → one_of (codes "json") (rows_in (subcommand_of commands (words_of c))) ≡ Some (flag_text (flag_of c))
unfolding clap_on_literals
flagged Check has = absurd (false≢true has)
flagged (Fresh false) has = refl
flagged (Fresh true) has = refl
flagged (Build false) has = refl
flagged (Build true) has = refl
flagged (Replay false) has = refl
flagged (Replay true) has = refl
flagged (Topdown false) has = refl
flagged (Topdown true) has = refl
flagged Scan has = absurd (false≢true has)
flagged Auto has = absurd (false≢true has)
flagged Cached has = absurd (false≢true has)
flagged (Demo seed size) has = absurd (false≢true has)

pub flag_read : (f : Found) (c : Command) → is_flagged c ≡ true → rows_of f ≡ rows_in (subcommand_of commands (words_of c))
    → one_text f (codes "json") ≡ Some (flag_text (flag_of c))
flag_read f c has is = one_text-rows f (codes "json") ∙ (ap (one_of (codes "json")) is ∙ flagged c has)

-- the flag that was read off the words of a command is the one that the command has
pub flag_is : (c : Command) (read : Bool) (f : Found) → is_flagged c ≡ true → rows_of f ≡ rows_in (subcommand_of commands (words_of c))
    → (one_text f (codes "json") ≡ Some (codes "true") → read ≡ true)
    → (one_text f (codes "json") ≡ Some (codes "false") → read ≡ false)
    → read ≡ flag_of c
flag_is Check read f has rows set unset = absurd (false≢true has)
flag_is (Fresh false) read f has rows set unset = unset (flag_read f (Fresh false) has rows)
flag_is (Fresh true) read f has rows set unset = set (flag_read f (Fresh true) has rows)
flag_is (Build false) read f has rows set unset = unset (flag_read f (Build false) has rows)
flag_is (Build true) read f has rows set unset = set (flag_read f (Build true) has rows)
flag_is (Replay false) read f has rows set unset = unset (flag_read f (Replay false) has rows)
flag_is (Replay true) read f has rows set unset = set (flag_read f (Replay true) has rows)
flag_is (Topdown false) read f has rows set unset = unset (flag_read f (Topdown false) has rows)
flag_is (Topdown true) read f has rows set unset = set (flag_read f (Topdown true) has rows)
flag_is Scan read f has rows set unset = absurd (false≢true has)
flag_is Auto read f has rows set unset = absurd (false≢true has)
flag_is Cached read f has rows set unset = absurd (false≢true has)
flag_is (Demo seed size) read f has rows set unset = absurd (false≢true has)

pub taken : (c : Command) → is_plain c ≡ true → takes commands (words_of c) ≡ true
unfolding clap_on_literals
taken Check plain = refl
taken (Fresh false) plain = refl
taken (Fresh true) plain = refl
taken (Build false) plain = refl
taken (Build true) plain = refl
taken (Replay false) plain = refl
taken (Replay true) plain = refl
taken (Topdown false) plain = refl
taken (Topdown true) plain = refl
taken Scan plain = refl
taken Auto plain = refl
taken Cached plain = refl
taken (Demo seed size) plain = absurd (false≢true plain)

-- a number that tells the names apart
abbrev mark : Text → ℕ
mark [] = 0
mark (b ∷ bytes) = 10 * b + length bytes

-- the command without numbers whose name has this mark, with this flag
abbrev plain_at : ℕ → Bool → Command
plain_at b json = cond (b == 994) Check
    (cond (b == 1024) (Fresh json)
    (cond (b == 984) (Build json)
    (cond (b == 1145) (Replay json)
    (cond (b == 1166) (Topdown json)
    (cond (b == 1153) Scan
    (cond (b == 995) Cached Auto))))))

is_at : (c : Command) → is_plain c ≡ true → plain_at (mark (name_of c)) (flag_of c) ≡ c
is_at Check plain = refl
is_at (Fresh json) plain = refl
is_at (Build json) plain = refl
is_at (Replay json) plain = refl
is_at (Topdown json) plain = refl
is_at Scan plain = refl
is_at Auto plain = refl
is_at Cached plain = refl
is_at (Demo seed size) plain = absurd (false≢true plain)

-- a command is the one that has its name, with its flag
pub by_name : (c : Command) (name : Text) → is_plain c ≡ true → name_of c ≡ name → plain_at (mark name) (flag_of c) ≡ c
by_name c name plain is = ap (λ n. plain_at (mark n) (flag_of c)) (sym is) ∙ is_at c plain

-- and so it is with the flag that was read off its words, where it has one
pub by_flag : (c : Command) (name : Text) (read : Bool) (f : Found) → is_plain c ≡ true → name_of c ≡ name → is_flagged (plain_at (mark name) (flag_of c)) ≡ true
    → rows_of f ≡ rows_in (subcommand_of commands (words_of c))
    → (one_text f (codes "json") ≡ Some (codes "true") → read ≡ true)
    → (one_text f (codes "json") ≡ Some (codes "false") → read ≡ false)
    → plain_at (mark name) read ≡ c
by_flag c name read f plain is has rows set unset =
    let same = by_name c name plain is in
    ap (plain_at (mark name)) (flag_is c read f (ap is_flagged (sym same) ∙ has) rows set unset) ∙ same

pub is_named : (c : Command) → is_plain c ≡ true → (name_of c ≡ codes "check" → ⊥) → (name_of c ≡ codes "fresh" → ⊥) → (name_of c ≡ codes "build" → ⊥)
    → (name_of c ≡ codes "replay" → ⊥) → (name_of c ≡ codes "topdown" → ⊥) → (name_of c ≡ codes "scan" → ⊥) → (name_of c ≡ codes "auto" → ⊥) → (name_of c ≡ codes "cached" → ⊥) → ⊥
is_named Check plain check fresh build replay topdown scan auto cached = check refl
is_named (Fresh json) plain check fresh build replay topdown scan auto cached = fresh refl
is_named (Build json) plain check fresh build replay topdown scan auto cached = build refl
is_named (Replay json) plain check fresh build replay topdown scan auto cached = replay refl
is_named (Topdown json) plain check fresh build replay topdown scan auto cached = topdown refl
is_named Scan plain check fresh build replay topdown scan auto cached = scan refl
is_named Auto plain check fresh build replay topdown scan auto cached = auto refl
is_named Cached plain check fresh build replay topdown scan auto cached = cached refl
is_named (Demo seed size) plain check fresh build replay topdown scan auto cached = absurd (false≢true plain)

-- what was found, from its name and its matches apart
pub paired : {A B X Y : Type 0} (f : X → A) (g : X → B) (h : Y → A) (k : Y → B) (r : Option X) (o : Option Y)
    → option_map f r ≡ option_map h o
    → option_map g r ≡ option_map {T = A × B} (λ p. p.1) (option_map {U = A × B} (λ y. (h y, k y)) o)
    → option_map {U = A × B} (λ x. (f x, g x)) r ≡ option_map {U = A × B} (λ y. (h y, k y)) o
paired f g h k None None e i = refl
paired f g h k None (Some y) e i = absurd (search rules)
paired f g h k (Some x) None e i = absurd (search rules)
paired f g h k (Some x) (Some y) e i = search rules

pub found_is : (m : ArgMatches) (r : Option (Bor Text × Bor ArgMatches)) → option_map (λ p. p.0.now) r ≡ subcommand_name_of m
    → option_map (λ p. rows_of (found_of p.1.now)) r ≡ option_map (λ p. p.1) (subcommand_rows_of m)
    → option_map {U = Text × List Row} (λ p. (p.0.now, rows_of (found_of p.1.now))) r ≡ subcommand_rows_of m
found_is m r name rows = paired (λ p. p.0.now) (λ p. rows_of (found_of p.1.now)) (λ b. (out-SubCommand (box_value b)).name.now)
    (λ b. rows_of (found_of (out-SubCommand (box_value b)).matches)) r (out-ArgMatches m).subcommand name rows
