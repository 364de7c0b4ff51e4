use Rattle.runs.proofs.OutputLaws.{check_written}
use Rattle.translator.specs.Translated.{translation_of}
use Rattle.translator.specs.AnswerLaws.{room_judged, answer_room}
use Rattle.translator.proofs.translate_loaded.Goals as goal

pub put_file-requires : goal.put_file-requires
put_file-requires c = record { room = answer_room c.args.file.now c.args.out.now c.translation_size-size.ensures c.room_checked.ensures c.in_ok-room_checked.was }

pub returns : goal.returns
returns c =
    let A = check_written (translation_of c.args.file.now) c.args.out.now
    (room_judged c.args.file.now c.args.out.now c.translation_size-size.ensures c.room_checked.ensures)
    c.in_ok-room_checked.was c.translation_size-size.ensures c.put_file.ensures.laid in
    (A.answer, A.output)
