use Rattle.std.proofs.Common.{◌≡◌, ◌++◌, string_bytes, rules}
use Rattle.pie_cached.proofs.lines.print_cached.Goals as goal

pub returns : goal.returns
returns c =
    let first = string_bytes c.in_ok-text.text in
    let more = string_bytes c.in_ok-lines.lines in
    let is : string_bytes c.push_str.new.self ≡ first ++ more = search rules in
    (first, more, c.in_ok-text.ensures, c.in_ok-lines.ensures, is)
