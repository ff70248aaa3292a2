-- `put_trailer` meets its contract: two words and five bytes, one behind the other.
use Rattle.job_file.proofs.WriterLaws.{trailer-written}
use Rattle.job_file.proofs.writer.put_trailer.Goals as goal

pub returns : goal.returns
returns c =
    let args = c.args in
    rw (c.put_word-2.ensures, c.put_word.ensures)
    (trailer-written args.buffer.now args.place args.job args.stops c.requires.1)
