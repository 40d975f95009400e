use Rattle.std.proofs.Common.{◌≡◌, ◌++◌, ◌∙◌, [], ◌∷◌, codes, decimal, length}
use Rattle.std.specs.List.{count_by}
use Rattle.json.specs.Token as token
use Rattle.snap_core.specs.Calls.{calls_of, views_of}
use Rattle.snap_index.specs.Updates.{is_pending}
use Rattle.snap_report.proofs.Pieces.{same_text}
use Rattle.snap_json.specs.Objects.{count_fields}
use Rattle.snap_json.specs.Values.{field_tokens}
use Rattle.snap_json.proofs.Values.{four_joined}
use Rattle.snap_json.proofs.object.put_counts.Goals as goal

pub returns : goal.returns
returns g c =
    let es = c.args.index.now in
    let old = c.args.line.now.writer.tokens in
    let events : c.from.result ≡ length es = c.from.ensures ∙ c.event_count.ensures.count in
    let calls : c.from-2.result ≡ length (calls_of es) = c.from-2.ensures ∙ c.call_count.ensures in
    let pending : c.from-3.result ≡ count_by is_pending (calls_of es) = c.from-3.ensures ∙ c.pending_count.ensures in
    let views : c.from-4.result ≡ length (views_of (calls_of es)) = c.from-4.ensures ∙ c.view_count.ensures in
    same_text c.number-4.result c.number-4.new.self.writer.tokens _ (old ++ field_tokens (count_fields es))
    (rw (c.in_ok-number-3.ensures, c.in_ok-number-2.ensures, c.in_ok-number.ensures, events, calls, pending, views)
    (four_joined old (token.key (codes "events") ∷ token.number (decimal (length es)) ∷ []) (token.key (codes "calls") ∷ token.number (decimal (length (calls_of es))) ∷ [])
    (token.key (codes "pending") ∷ token.number (decimal (count_by is_pending (calls_of es))) ∷ []) (token.key (codes "views") ∷ token.number (decimal (length (views_of (calls_of es)))) ∷ [])))
    c.number-4.ensures
