mod Answering
mod Noting
