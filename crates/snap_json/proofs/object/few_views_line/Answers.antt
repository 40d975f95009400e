use Rattle.std.proofs.Common.{Vec, Global, refl}
use Rattle.snap_json.specs.Objects.{few_views_json}
use Rattle.snap_json.proofs.Values.{line_is}
use Rattle.snap_json.proofs.object.few_views_line.Goals as goal

pub returns : goal.returns
returns c =
    line_is (λ (v : Vec _ Global). v.items) c.finish.result c.end_object.new.self.writer.tokens (few_views_json c.args.name.now c.args.status c.args.views c.args.least)
    (rw (c.in_ok-end_object.ensures, c.in_ok-put_few_views.ensures, c.in_ok-line.ensures) refl)
    c.finish.ensures.text c.finish.ensures.reads_back
