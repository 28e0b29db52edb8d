use Rattle.std.proofs.Common.{◌∷◌, codes, map, rules}
use Rattle.operation_spec.specs.OperationLines.{nth_name}
use Rattle.operation_spec.specs.WordTexts.{word_text, words_text}
use Rattle.operation_spec.proofs.LineTexts.{line_appended}
use Rattle.job_text.specs.JobLines.{operation_names}
use Rattle.job_text.proofs.WrittenLines.{appended_thrice}
use Rattle.job_text.proofs.writing.put_statement.Goals as goal

pub returns : goal.returns
returns c =
    let job = c.args.job.now in
    let s = c.args.s.now in
    let operation = nth_name (operation_names job) s.operation in
    let work = nth_name job.names s.bind.work in
    let knowns = map (nth_name job.names) s.bind.knowns in
    let put_operation = rw (c.operation_name.ensures, c.as_slice.ensures) at c.in_ok-put_word.ensures in
    let put_work = rw (c.name_of.ensures, c.as_slice-names.ensures) at c.in_ok-put_word-2.ensures in
    let put_knowns = rw (c.as_slice-names.ensures, c.as_slice-2.ensures) at c.in_ok-put_names.ensures in
    line_appended c.args.out.now.items c.extend_from_slice.new.self.items c.put_names.new.out.items c.push.new.self.items (codes "do") (operation ∷ work ∷ knowns)
    (search rules) (appended_thrice c.extend_from_slice.new.self.items c.put_word.new.out.items c.put_word-2.new.out.items c.put_names.new.out.items (word_text operation) (word_text work) (words_text knowns) put_operation put_work put_knowns) (search rules)
