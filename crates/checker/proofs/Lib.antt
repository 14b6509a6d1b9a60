mod Late
mod Judged
