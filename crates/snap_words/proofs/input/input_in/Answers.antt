use Rattle.snap_words.proofs.input.input_in.Goals as goal

pub returns : goal.returns
returns c = record {
  files_are = c.in_ok-files_in.ensures;
  list_is = c.in_ok-text_in.ensures;
  null_is = λ null is. c.flag_in.ensures.given null is;
  folder_is = c.in_ok-text_in-2.ensures;
}
