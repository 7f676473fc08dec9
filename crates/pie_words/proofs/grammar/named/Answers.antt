use Rattle.std.proofs.Common.{Ok, codes, refl, sym, ap, ◌∙◌}
use Rattle.clap.specs.Words.{found_of}
use Rattle.pie_words.proofs.Taken.{by_flag, by_name, is_named, name_in, named, rows_in}
use Rattle.pie_words.proofs.grammar.named.Goals as goal

pub returns-in-check : goal.returns-in-check
returns-in-check c = λ command plain is. ap Ok (by_name command (codes "check") plain (sym (ap name_in is ∙ named command plain) ∙ c.in-check.is))

pub returns-in-fresh : goal.returns-in-fresh
returns-in-fresh c = λ command plain is. ap Ok (by_flag command (codes "fresh") c.get_flag.result (found_of c.args.flags.now) plain
    (sym (ap name_in is ∙ named command plain) ∙ c.in-fresh.is) refl (ap rows_in is) c.get_flag.ensures.value c.get_flag.ensures.other)

pub returns-in-build : goal.returns-in-build
returns-in-build c = λ command plain is. ap Ok (by_flag command (codes "build") c.get_flag-in-build.result (found_of c.args.flags.now) plain
    (sym (ap name_in is ∙ named command plain) ∙ c.in-build.is) refl (ap rows_in is) c.get_flag-in-build.ensures.value c.get_flag-in-build.ensures.other)

pub returns-in-replay : goal.returns-in-replay
returns-in-replay c = λ command plain is. ap Ok (by_flag command (codes "replay") c.get_flag-in-replay.result (found_of c.args.flags.now) plain
    (sym (ap name_in is ∙ named command plain) ∙ c.in-replay.is) refl (ap rows_in is) c.get_flag-in-replay.ensures.value c.get_flag-in-replay.ensures.other)

pub returns-in-topdown : goal.returns-in-topdown
returns-in-topdown c = λ command plain is. ap Ok (by_flag command (codes "topdown") c.get_flag-in-topdown.result (found_of c.args.flags.now) plain
    (sym (ap name_in is ∙ named command plain) ∙ c.in-topdown.is) refl (ap rows_in is) c.get_flag-in-topdown.ensures.value c.get_flag-in-topdown.ensures.other)

pub returns-in-scan : goal.returns-in-scan
returns-in-scan c = λ command plain is. ap Ok (by_name command (codes "scan") plain (sym (ap name_in is ∙ named command plain) ∙ c.in-scan.is))

pub returns-in-auto : goal.returns-in-auto
returns-in-auto c = λ command plain is. ap Ok (by_name command (codes "auto") plain (sym (ap name_in is ∙ named command plain) ∙ c.in-auto.is))

pub returns-in-cached : goal.returns-in-cached
returns-in-cached c = λ command plain is. ap Ok (by_name command (codes "cached") plain (sym (ap name_in is ∙ named command plain) ∙ c.in-cached.is))

pub returns-in_default : goal.returns-in_default
returns-in_default c = λ command plain is. let name = ap name_in is ∙ named command plain in absurd (is_named command plain
    (λ n. c.in_default.not-check (name ∙ n))
    (λ n. c.in_default.not-fresh (name ∙ n))
    (λ n. c.in_default.not-build (name ∙ n))
    (λ n. c.in_default.not-replay (name ∙ n))
    (λ n. c.in_default.not-topdown (name ∙ n))
    (λ n. c.in_default.not-scan (name ∙ n))
    (λ n. c.in_default.not-auto (name ∙ n))
    (λ n. c.in_default.not-cached (name ∙ n)))
