use Rattle.std.proofs.Common.{◌≡◌, ◌++◌, ◌∙◌, ap, codes, rules}
use Rattle.json.specs.Lex.{tokens}
use Rattle.json.specs.Print.{print}
use Rattle.snap_json.proofs.LineEnds.{line_reads_back}
use Rattle.snap_json.proofs.line.Line.finish.Goals as goal

pub returns-clause-reads_back : goal.returns-clause-reads_back
returns-clause-reads_back c =
    let ts = c.args.self.writer.tokens in
    let whole : c.push.new.self.items ≡ print ts ++ codes "\n" = search rules in
    ap tokens whole ∙ line_reads_back ts c.into_inner-line.ensures.reads_back
