use Rattle.std.proofs.Common.{◌≡◌, List, subst, sym}
use Rattle.clap.specs.Words.{Row, found_of, rows_of}
use Rattle.snap_core.specs.declared.limit.Limit.{Limit}
use Rattle.snap_words.specs.Drawing.{AsksDrawWithin}
use Rattle.snap_words.specs.declared.drawing.Form.{Form}
use Rattle.snap_words.specs.declared.drawing.Part.{Part}
use Rattle.snap_words.proofs.command_jobs.draw_in.Goals as goal

-- what is asked for in a form is asked for in an equal one
in_form : (limit : Limit) (rows : List Row) (form found : Form) (part : Part) → found ≡ form → AsksDrawWithin limit rows form part → AsksDrawWithin limit rows found part
in_form limit rows form found part same asks = subst (λ (f : Form). AsksDrawWithin limit rows f part) (sym same) asks

pub returns-clause-asked : goal.returns-clause-asked
returns-clause-asked c = λ limit form part files is asks.
    let form_is = c.in_ok-form.ensures limit form part asks in
    let same_form : c.in_ok-form.form ≡ form = cc in
    let part_is = c.in_ok-part.ensures.asked limit part (in_form limit (rows_of (found_of c.args.matches.now)) form c.in_ok-form.form part same_form asks) in
    let same_part : c.in_ok-part.part ≡ part = cc in
    (same_form, same_part, c.in_ok-limit.ensures limit asks.limit_is, is)

-- the form has room for what is asked for, so a part is found
pub returns-in_err-part-clause-asked : goal.returns-in_err-part-clause-asked
returns-in_err-part-clause-asked c = λ limit form part files is asks.
    let form_is = c.in_ok-form.ensures limit form part asks in
    let same_form : c.in_ok-form.form ≡ form = cc in
    let none = c.in_err-part.ensures.asked limit part (in_form limit (rows_of (found_of c.args.matches.now)) form c.in_ok-form.form part same_form asks) in
    absurd cc
